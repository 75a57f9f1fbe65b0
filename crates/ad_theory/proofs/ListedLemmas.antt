-- Listed modules: the literal one, one at most, and one there is.
use Rattle.std.proofs.Common.{◌≡◌, Bool, ◌⊎◌, ◌&&◌, List, IsTrue, IsFalse, inl, inr, refl, sym, subst, ◌∙◌}
use Rattle.std.specs.List.{Contains, filter, list_any, IsDistinct}
use Rattle.ad_theory.specs.Module.{Logic, IsAntitone, IsClosed, IsModule}
use Rattle.ad_theory.specs.Listed.{IsListedModule, IsLiteralModule, IsSublist, IsOutsideLocal, IsEqualityTest, seed_with}
use Rattle.ad_theory.proofs.Members.{either, not_both, or_left, or_right, or_cases, and_intro, and_left, and_right, has_of_contains, contains_of_has, any_of_has, has_of_any, has_filter, filter_has, filter_same, filter-filter, filter_sublist, sublist_has, any_same, same_any, sublist_filter}
use Rattle.ad_theory.proofs.ModuleLemmas.{grows, closed_fewer, extend}
use Rattle.ad_theory.proofs.Existence.{some_module}

pub contains_filter : {A : Type 0} (p : A → Bool) (xs : List A) (a : A) → Contains xs a → IsTrue (p a) → Contains (filter p xs) a
contains_filter p xs a c t = contains_of_has (filter p xs) a (has_filter p xs a (has_of_contains xs a c) t)

pub filter_contains : {A : Type 0} (p : A → Bool) (xs : List A) (a : A) → Contains (filter p xs) a → Contains xs a × IsTrue (p a)
filter_contains p xs a c = let r = filter_has p xs a (has_of_contains (filter p xs) a c) in (contains_of_has xs a r.0, r.1)

module _ {A E : Type 0} (L : Logic A E) (seed : E → Bool) where
  -- what a list adds to the seed
  pub seed_with_cases : (M : List A) (e : E) → IsTrue (seed_with L seed M e) → IsTrue (seed e) ⊎ ((a : A) × Contains M a × IsTrue (L.sig a e))
  seed_with_cases M e h = elim (or_cases (seed e) (list_any (λ a. L.sig a e) M) h) [
    | inl s ↦ inl s
    | inr r ↦ let f = has_of_any (λ a. L.sig a e) M r in inr (f.0, contains_of_has M f.0 f.1, f.2)
  ]

  pub seed_with_seed : (M : List A) (e : E) → IsTrue (seed e) → IsTrue (seed_with L seed M e)
  seed_with_seed M e h = or_left (seed e) (list_any (λ a. L.sig a e) M) h

  pub seed_with_symbols : (M : List A) (a : A) (e : E) → Contains M a → IsTrue (L.sig a e) → IsTrue (seed_with L seed M e)
  seed_with_symbols M a e c h = or_right (seed e) (list_any (λ a. L.sig a e) M) (any_of_has (λ a. L.sig a e) M a (has_of_contains M a c) h)

  -- two lists of the module are the same
  pub listed_one : (O M N : List A) → IsListedModule L seed O M → IsListedModule L seed O N → M ≡ N
  listed_one O M N m n =
      m.listed ∙ filter_same m.test n.test O
      (λ a _ t. grows {L = L} (λ e h. h) (λ a h. h) m.is_module n.is_module a t)
      (λ a _ t. grows {L = L} (λ e h. h) (λ a h. h) n.is_module m.is_module a t)
      ∙ sym n.listed

  pub listed_has : (O M : List A) → (m : IsListedModule L seed O M) → (a : A) → Contains M a → IsTrue (m.test a)
  listed_has O M m a c = (filter_contains m.test O a (subst (λ l. Contains l a) m.listed c)).1

  pub has_listed : (O M : List A) → (m : IsListedModule L seed O M) → (a : A) → IsTrue (m.test a) → Contains M a
  has_listed O M m a t = subst (λ l. Contains l a) (sym m.listed) (contains_filter m.test O a (m.is_module.within a t) t)

  -- Axioms that are local for everything, as those that say nothing of logic, may be left out of the ontology.
  module _ (P : A → Bool) (O : List A) (others : (a : A) → IsFalse (P a) → (T : E → Bool) → IsTrue (L.local T a)) where
    passes : {M : A → Bool} {S : E → Bool} → IsModule L seed (Contains O) M S → (a : A) → IsTrue (M a) → IsTrue (P a)
    passes {M} {S} m a t = and_right (M a) (P a) (m.least (λ b. M b && P b) S (record {
      has_seed = m.closed.has_seed;
      has_symbols = λ b e h s. m.closed.has_symbols b e (and_left (M b) (P b) h) s;
      rest = λ b o. elim (m.closed.rest b o) [
        | inr l ↦ inr l
        | inl h ↦ elim (either (P b)) [ inl p ↦ inl (and_intro (M b) (P b) h p) | inr f ↦ inr (others b f S) ]
      ];
    }) a t)

    pub listed_filter : (M : List A) → IsListedModule L seed O M → IsListedModule L seed (filter P O) M
    listed_filter M m = record {
      test = m.test;
      closure = m.closure;
      is_module = record {
        within = λ a t. contains_filter P O a (m.is_module.within a t) (passes m.is_module a t);
        only = m.is_module.only;
        closed = closed_fewer {L = L} (λ e h. h) (λ a c. (filter_contains P O a c).0) m.is_module.closed;
        least = λ N T c. m.is_module.least N T (record {
          has_seed = c.has_seed;
          has_symbols = c.has_symbols;
          rest = λ a o. elim (either (P a)) [ inl p ↦ c.rest a (contains_filter P O a o p) | inr f ↦ inr (others a f T) ];
        });
      };
      listed = m.listed ∙ sym (filter-filter m.test P O (λ a t. passes m.is_module a t));
    }

    pub filter_listed : (M : List A) → IsListedModule L seed (filter P O) M → IsListedModule L seed O M
    filter_listed M m = record {
      test = m.test;
      closure = m.closure;
      is_module = extend {L = L} (λ a c. (filter_contains P O a c).0)
          (λ a o. elim (either (P a)) [ inl p ↦ inl (contains_filter P O a o p) | inr f ↦ inr (others a f m.closure) ]) m.is_module;
      listed = m.listed ∙ filter-filter m.test P O (λ a t. (filter_contains P O a (m.is_module.within a t)).1);
    }

  module _ (antitone : IsAntitone L) where
    listed_outside : (O M : List A) → IsListedModule L seed O M → IsOutsideLocal L seed O M
    listed_outside O M m a o n = elim (m.is_module.closed.rest a o) [
      | inl t ↦ absurd (n (has_listed O M m a t))
      | inr t ↦ antitone.shrinks (seed_with L seed M) m.closure a
          (λ e _ h. elim (seed_with_cases M e h) [ inl s ↦ m.is_module.closed.has_seed e s | inr r ↦ m.is_module.closed.has_symbols r.0 e (listed_has O M m r.0 r.1) r.2 ]) t
    ]

    module _ (same : A → A → Bool) (equality : IsEqualityTest same) where
      -- a part with that property, cut down to the module, is closed
      listed_least : (O M : List A) → IsListedModule L seed O M → (N : List A) → IsOutsideLocal L seed O N → (a : A) → Contains M a → Contains N a
      listed_least O M m N out a c =
          let inside : A → Bool = λ b. list_any (same b) N in
          let test : A → Bool = λ b. m.test b && inside b in
          let names : E → Bool = λ e. m.closure e && seed_with L seed N e in
          let closed : IsClosed L seed (Contains O) test names = record {
            has_seed = λ e h. and_intro (m.closure e) (seed_with L seed N e) (m.is_module.closed.has_seed e h) (seed_with_seed N e h);
            has_symbols = λ b e h s. and_intro (m.closure e) (seed_with L seed N e)
                (m.is_module.closed.has_symbols b e (and_left (m.test b) (inside b) h) s)
                (seed_with_symbols N b e (contains_of_has N b (any_same same equality N b (and_right (m.test b) (inside b) h))) s);
            rest = λ b o. elim (m.is_module.closed.rest b o) [
              | inr t ↦ inr (antitone.shrinks names m.closure b (λ e _ h. and_left (m.closure e) (seed_with L seed N e) h) t)
              | inl t ↦ elim (either (inside b)) [
                | inl i ↦ inl (and_intro (m.test b) (inside b) t i)
                | inr f ↦ inr (antitone.shrinks names (seed_with L seed N) b (λ e _ h. and_right (m.closure e) (seed_with L seed N e) h)
                    (out b o (λ k. not_both (same_any same equality N b (has_of_contains N b k)) f)))
              ]
            ];
          } in
          contains_of_has N a (any_same same equality N a
          (and_right (m.test a) (inside a) (m.is_module.least test names closed a (listed_has O M m a c))))

      pub literal_of_listed : (O M : List A) → IsListedModule L seed O M → IsLiteralModule L seed O M
      literal_of_listed O M m = record {
        part = subst (λ l. IsSublist l O) (sym m.listed) (filter_sublist m.test O);
        outside = listed_outside O M m;
        least = λ N _ out a c. listed_least O M m N out a c;
      }

      pub listed_of_literal : (O M : List A) → IsDistinct same O → IsLiteralModule L seed O M → IsListedModule L seed O M
      listed_of_literal O M d m = record {
        test = λ a. list_any (same a) M;
        closure = seed_with L seed M;
        is_module = record {
          within = λ a t. contains_of_has O a (sublist_has M O a m.part (any_same same equality M a t));
          only = λ e h. elim (seed_with_cases M e h) [ inl s ↦ inl s | inr r ↦ inr (r.0, same_any same equality M r.0 (has_of_contains M r.0 r.1), r.2) ];
          closed = record {
            has_seed = λ e h. seed_with_seed M e h;
            has_symbols = λ a e t h. seed_with_symbols M a e (contains_of_has M a (any_same same equality M a t)) h;
            rest = λ a o. elim (either (list_any (same a) M)) [
              | inl t ↦ inl t
              | inr f ↦ inr (m.outside a o (λ c. not_both (same_any same equality M a (has_of_contains M a c)) f))
            ];
          };
          least = λ N T c a t. (filter_contains N O a (m.least (filter N O) (filter_sublist N O)
              (λ b o n. elim (c.rest b o) [
                | inl i ↦ absurd (n (contains_filter N O b o i))
                | inr l ↦ antitone.shrinks (seed_with L seed (filter N O)) T b
                    (λ e _ h. elim (seed_with_cases (filter N O) e h) [ inl s ↦ c.has_seed e s | inr r ↦ c.has_symbols r.0 e (filter_contains N O r.0 r.1).1 r.2 ]) l
              ])
              a (contains_of_has M a (any_same same equality M a t)))).1;
        };
        listed = sublist_filter same equality M O d m.part;
      }

      pub some_listed : (O : List A) → (M : List A) × IsListedModule L seed O M
      some_listed O =
          let m = some_module L antitone same equality seed O in (
            filter m.test O,
            record {
              test = m.test;
              closure = m.closure;
              is_module = record {
                within = λ a t. contains_of_has O a (m.is.within a t);
                only = m.is.only;
                closed = closed_fewer {L = L} (λ e h. h) (λ a c. has_of_contains O a c) m.is.closed;
                least = λ N T c. m.is.least N T (closed_fewer {L = L} (λ e h. h) (λ a h. contains_of_has O a h) c);
              };
              listed = refl;
            },
          )
