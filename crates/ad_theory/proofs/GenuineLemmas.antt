-- Modules for an axiom's own signature: which axioms they have, and that they nest.
use Rattle.std.proofs.Common.{◌≡◌, Bool, ◌↔◌, ◌==◌, ℕ, List, ◌&&◌, ◌||◌, not, IsTrue, IsFalse, inl, inr, refl, sym, ◌∙◌, subst}
use Rattle.std.specs.List.{Contains}
use Rattle.ad_base.specs.declared.limits.Kind.{Kind}
use Rattle.ad_base.specs.declared.limits.Kind.TheVariants.{Bottom, Top, Star}
use Rattle.ad_base.specs.declared.limits.Side.{Side}
use Rattle.ad_base.specs.declared.limits.Side.TheVariants as sides
use Rattle.ad_theory.specs.Module.{Logic, IsAntitone, IsModule, IsFixed, IsStar}
use Rattle.ad_theory.specs.Listed.{IsEqualityTest}
use Rattle.ad_theory.specs.Kinds.{IsModuleOfKind, IsListedOfKind}
use Rattle.ad_theory.specs.Numbers.{logic_of, IsNumberedModule}
use Rattle.ad_theory.specs.Genuine.{IsGenuine, IsNoTautology}
use Rattle.ad_theory.proofs.Members.{either, not_both, or_left, or_right, or_cases, and_intro, and_left, and_right, not_true, false_not}
use Rattle.ad_theory.proofs.ListedLemmas.{listed_has, has_listed}
use Rattle.ad_theory.proofs.NumberLemmas.{same_number}
use Rattle.ad_theory.proofs.StarLemmas.{listed_star_has, has_listed_star}

module _ {A E : Type 0} {L : Logic A E} where
  -- a module has the module for what stands in the signature of one of its axioms
  pub side_nested : {s own : E → Bool} {O : A → Type 0} {b : A} {M N : A → Bool} {S R : E → Bool} → ((e : E) → IsTrue (own e) → IsTrue (L.sig b e))
      → IsModule L s O M S → IsTrue (M b) → IsModule L own O N R → (a : A) → IsTrue (N a) → IsTrue (M a)
  side_nested {b = b} {M = M} {S = S} stands m t n = n.least M S (record { has_seed = λ e h. m.closed.has_symbols b e t (stands e h); has_symbols = m.closed.has_symbols; rest = m.closed.rest })

  -- what is its own module, with what is its own module for what stands in the signature of one of its axioms
  fixed_union : {s own : E → Bool} {b : A} {M N : A → Bool} → ((e : E) → IsTrue (own e) → IsTrue (L.sig b e)) → IsFixed L s M → IsTrue (M b) → IsFixed L own N → IsFixed L s (λ a. M a || N a)
  fixed_union {s} {own} {b} {M} {N} stands (S, m) t (R, n) = (
    λ e. S e || R e,
    record {
      within = λ a h. h;
      only = λ e h. elim (or_cases (S e) (R e) h) [
        | inl h' ↦ elim (m.only e h') [ inl r ↦ inl r | inr r ↦ inr (r.0, or_left (M r.0) (N r.0) r.1, r.2) ]
        | inr h' ↦ elim (n.only e h') [ inl r ↦ inr (b, or_left (M b) (N b) t, stands e r) | inr r ↦ inr (r.0, or_right (M r.0) (N r.0) r.1, r.2) ]
      ];
      closed = record {
        has_seed = λ e h. or_left (S e) (R e) (m.closed.has_seed e h);
        has_symbols = λ a e h h'. elim (or_cases (M a) (N a) h) [ inl o ↦ or_left (S e) (R e) (m.closed.has_symbols a e o h') | inr o ↦ or_right (S e) (R e) (n.closed.has_symbols a e o h') ];
        rest = λ a o. inl o;
      };
      least = λ K T c.
          let first : (a : A) → IsTrue (M a) → IsTrue (K a) = m.least K T (record { has_seed = c.has_seed; has_symbols = c.has_symbols; rest = λ a o. c.rest a (or_left (M a) (N a) o) }) in
          let second : (a : A) → IsTrue (N a) → IsTrue (K a) = n.least K T (record { has_seed = λ e h. c.has_symbols b e (first b t) (stands e h); has_symbols = c.has_symbols; rest = λ a o. c.rest a (or_right (M a) (N a) o) }) in
          λ a h. elim (or_cases (M a) (N a) h) [ inl o ↦ first a o | inr o ↦ second a o ];
    },
  )

  module _ (antitone : IsAntitone L) where
    -- an axiom in the module for its own signature is not local for it
    own_not_local : {a : A} {O : A → Type 0} {M : A → Bool} {S : E → Bool} → IsModule L (L.sig a) O M S → IsTrue (M a) → IsFalse (L.local (L.sig a) a)
    own_not_local {a} {O} {M} {S} m t = not_true (L.local (L.sig a) a) (and_right (M a) (not (L.local (L.sig a) a)) (m.least (λ b. M b && not (L.local (L.sig b) b)) S (record {
      has_seed = m.closed.has_seed;
      has_symbols = λ b e h. m.closed.has_symbols b e (and_left (M b) (not (L.local (L.sig b) b)) h);
      rest = λ b o. elim (m.closed.rest b o) [
        | inr l ↦ inr l
        | inl h ↦ elim (either (L.local (L.sig b) b)) [
          | inl l ↦ inr (antitone.shrinks S (L.sig b) b (λ e s _. s) l)
          | inr f ↦ inl (and_intro (M b) (not (L.local (L.sig b) b)) h (false_not (L.local (L.sig b) b) f))
        ]
      ];
    }) a t))

    -- an axiom of the ontology that is not local for its own signature is in the module for it
    not_local_own : {a : A} {O : A → Type 0} {M : A → Bool} {S : E → Bool} → IsModule L (L.sig a) O M S → O a → IsFalse (L.local (L.sig a) a) → IsTrue (M a)
    not_local_own {a} {S = S} m o f = elim (m.closed.rest a o) [ inl h ↦ h | inr l ↦ absurd (not_both (antitone.shrinks (L.sig a) S a (λ e s _. m.closed.has_seed e s) l) f) ]

    -- such an axiom alone is its own module
    alone_fixed : (same : A → A → Bool) → IsEqualityTest same → (a : A) → IsFalse (L.local (L.sig a) a) → IsFixed L (L.sig a) (same a)
    alone_fixed same equality a f = (
      L.sig a,
      record {
        within = λ b h. h;
        only = λ e h. inl h;
        closed = record {
          has_seed = λ e h. h;
          has_symbols = λ b e h. subst (λ c. IsTrue (L.sig c e) → IsTrue (L.sig a e)) ((equality a b).0 h) (λ s. s);
          rest = λ b h. inl h;
        };
        least = λ K T c b h. subst (λ x. IsTrue (K x)) ((equality a b).0 h) (elim (c.rest a ((equality a a).1 refl)) [
          | inl k ↦ k
          | inr l ↦ absurd (not_both (antitone.shrinks (L.sig a) T a (λ e s _. c.has_seed e s) l) f)
        ]);
      },
    )

-- The same of all kinds, where the signatures on both sides are the same.
module _ {A E : Type 0} (B T : Logic A E) (same : (a : A) (e : E) → B.sig a e ≡ T.sig a e) where
  on_top : (b : A) (e : E) → IsTrue (B.sig b e) → IsTrue (T.sig b e)
  on_top b e h = sym (same b e) ∙ h

  pub star_nested : (seed : E → Bool) (O : A → Type 0) (b : A) (M N : A → Bool) → IsStar B T seed O M → IsTrue (M b) → IsStar B T (B.sig b) O N → (a : A) → IsTrue (N a) → IsTrue (M a)
  star_nested seed O b M N m t n a h =
      m.greatest (λ a. M a || N a) (λ a o. elim (or_cases (M a) (N a) o) [ inl o' ↦ m.within a o' | inr o' ↦ n.within a o' ])
      (fixed_union {L = B} {b = b} (λ e s. s) m.bottom t n.bottom) (fixed_union {L = T} {b = b} (on_top b) m.top t n.top) a (or_right (M a) (N a) h)

  pub kind_nested : (kind : Kind) (seed : E → Bool) (O : A → Type 0) (b : A) (M N : A → Bool) (S R : E → Bool)
      → IsModuleOfKind kind B T seed O M S → IsTrue (M b) → IsModuleOfKind kind B T (B.sig b) O N R → (a : A) → IsTrue (N a) → IsTrue (M a)
  kind_nested Bottom seed O b M N S R m t n a h = side_nested {L = B} {b = b} (λ e s. s) m t n a h
  kind_nested Top seed O b M N S R m t n a h = side_nested {L = T} {b = b} (on_top b) m t n a h
  kind_nested Star seed O b M N S R m t n a h = star_nested seed O b M N m.0 t n.0 a h

  pub listed_nested : (kind : Kind) (seed : E → Bool) (O : List A) (b : A) (M N : List A)
      → IsListedOfKind kind B T seed O M → Contains M b → IsListedOfKind kind B T (B.sig b) O N → (a : A) → Contains N a → Contains M a
  listed_nested Bottom seed O b M N m o n a h =
      has_listed B seed O M m a (side_nested {L = B} {b = b} (λ e s. s) m.is_module (listed_has B seed O M m b o) n.is_module a (listed_has B (B.sig b) O N n a h))
  listed_nested Top seed O b M N m o n a h =
      has_listed T seed O M m a (side_nested {L = T} {b = b} (on_top b) m.is_module (listed_has T seed O M m b o) n.is_module a (listed_has T (B.sig b) O N n a h))
  listed_nested Star seed O b M N m o n a h =
      has_listed_star B T seed O M m a (star_nested seed (Contains O) b m.test n.test m.is_star (listed_star_has B T seed O M m b o) n.is_star a (listed_star_has B T (B.sig b) O N n a h))

module _ (symbols : ℕ → List ℕ) (local : Side → (ℕ → Bool) → ℕ → Bool) (live : ℕ → Bool) where
  abbrev B : Logic ℕ ℕ
  B = logic_of symbols (local sides.Bottom)

  abbrev T : Logic ℕ ℕ
  T = logic_of symbols (local sides.Top)

  -- over numbered axioms, any module has the genuine modules of its axioms
  pub numbered_nested : (kind : Kind) (seed : ℕ → Bool) (k : ℕ) (M N S : ℕ → Bool) → IsNumberedModule kind symbols local seed (λ i. IsTrue (live i)) M S
      → IsTrue (M k) → IsGenuine kind symbols local live k N → (j : ℕ) → IsTrue (N j) → IsTrue (M j)
  numbered_nested kind seed k M N S m t (R, n) j h = kind_nested B T (λ a e. refl) kind seed (λ i. IsTrue (live i)) k M N S R m t n j h

  module _ (antitone : (side : Side) → IsAntitone (logic_of symbols (local side))) where
    pub own : (kind : Kind) (i : ℕ) (M : ℕ → Bool) → IsTrue (live i) → IsGenuine kind symbols local live i M → IsTrue (M i) ↔ IsNoTautology kind symbols local i
    own Bottom i M o (S, m) = (λ t. own_not_local {L = B} (antitone sides.Bottom) {a = i} m t, λ f. not_local_own {L = B} (antitone sides.Bottom) {a = i} m o f)
    own Top i M o (S, m) = (λ t. own_not_local {L = T} (antitone sides.Top) {a = i} m t, λ f. not_local_own {L = T} (antitone sides.Top) {a = i} m o f)
    own Star i M o (S, m) = (
      λ t. (own_not_local {L = B} (antitone sides.Bottom) {a = i} m.0.bottom.1 t, own_not_local {L = T} (antitone sides.Top) {a = i} m.0.top.1 t),
      λ f. m.0.greatest (λ j. i == j) (λ j h. subst (λ x. IsTrue (live x)) ((same_number i j).0 h) o) (alone_fixed {L = B} (antitone sides.Bottom) (λ a b. a == b) same_number i f.0) (alone_fixed {L = T} (antitone sides.Top) (λ a b. a == b) same_number i f.1) i ((same_number i i).1 refl),
    )
