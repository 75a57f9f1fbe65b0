-- A list of axioms has a module for each seed: by recursion on the list, for all seeds at once.
use Rattle.std.proofs.Common.{Bool, false, ◌||◌, List, [], ◌∷◌, IsTrue, IsFalse, inl, inr, refl, sym, subst}
use Rattle.ad_theory.specs.Module.{Logic, IsAntitone, IsClosed, IsModule}
use Rattle.ad_theory.specs.Listed.{IsEqualityTest}
use Rattle.ad_theory.proofs.Members.{Has, either, not_both, or_left, or_right, or_cases}
use Rattle.ad_theory.proofs.ModuleLemmas.{closed_fewer, closure_within}

-- some module of O for the seed
pub record SomeModule {A E : Type 0} (L : Logic A E) (seed : E → Bool) (O : A → Type 0) : Type 0 where
  pub test : A → Bool
  pub closure : E → Bool
  pub is : IsModule L seed O test closure

module _ {A E : Type 0} (L : Logic A E) (antitone : IsAntitone L) (same : A → A → Bool) (equality : IsEqualityTest same) where
  -- an axiom that is local for the closure of the module without it changes nothing
  local_first : (seed : E → Bool) (x : A) (xs : List A) → (m : SomeModule L seed (Has xs)) → IsTrue (L.local m.closure x) → SomeModule L seed (Has (x ∷ xs))
  local_first seed x xs m t = record {
    test = m.test;
    closure = m.closure;
    is = record {
      within = λ a h. inr (m.is.within a h);
      only = m.is.only;
      closed = record {
        has_seed = m.is.closed.has_seed;
        has_symbols = m.is.closed.has_symbols;
        rest = λ a h. elim h [ inl e ↦ inr (subst (λ y. IsTrue (L.local m.closure y)) (sym e) t) | inr r ↦ m.is.closed.rest a r ];
      };
      least = λ N T c. m.is.least N T (closed_fewer (λ e h. h) (λ a h. inr h) c);
    };
  }

  -- any other is in the module, with the module of the rest for the seed and its signature
  first_needed : (seed : E → Bool) (x : A) (xs : List A) → (m : SomeModule L seed (Has xs)) → IsFalse (L.local m.closure x) → SomeModule L (λ e. seed e || L.sig x e) (Has xs) → SomeModule L seed (Has (x ∷ xs))
  first_needed seed x xs m f n =
      let needed : (N : A → Bool) (T : E → Bool) → IsClosed L seed (Has (x ∷ xs)) N T → IsTrue (N x) =
      (λ N T c. elim (c.rest x (inl refl)) [ inl h ↦ h | inr t ↦ absurd (not_both (antitone.shrinks m.closure T x (λ e _ h. closure_within m.is N T (closed_fewer (λ e h. h) (λ a h. inr h) c) e h) t) f) ]) in
      let below : (N : A → Bool) (T : E → Bool) → IsClosed L seed (Has (x ∷ xs)) N T → IsClosed L (λ e. seed e || L.sig x e) (Has xs) N T =
      (λ N T c. record {
        has_seed = λ e h. elim (or_cases (seed e) (L.sig x e) h) [ inl s ↦ c.has_seed e s | inr s ↦ c.has_symbols x e (needed N T c) s ];
        has_symbols = c.has_symbols;
        rest = λ a h. c.rest a (inr h);
      }) in
      record {
        test = λ a. same a x || n.test a;
        closure = n.closure;
        is = record {
          within = λ a h. elim (or_cases (same a x) (n.test a) h) [ inl s ↦ inl ((equality a x).0 s) | inr r ↦ inr (n.is.within a r) ];
          only = λ e h. elim (n.is.only e h) [
            | inl s ↦ elim (or_cases (seed e) (L.sig x e) s) [ inl r ↦ inl r | inr r ↦ inr (x, or_left (same x x) (n.test x) ((equality x x).1 refl), r) ]
            | inr r ↦ inr (r.0, or_right (same r.0 x) (n.test r.0) r.1, r.2)
          ];
          closed = record {
            has_seed = λ e h. n.is.closed.has_seed e (or_left (seed e) (L.sig x e) h);
            has_symbols = λ a e h s. elim (or_cases (same a x) (n.test a) h) [
              | inl r ↦ n.is.closed.has_seed e (or_right (seed e) (L.sig x e) (subst (λ y. IsTrue (L.sig y e)) ((equality a x).0 r) s))
              | inr r ↦ n.is.closed.has_symbols a e r s
            ];
            rest = λ a h. elim h [
              | inl e ↦ inl (or_left (same a x) (n.test a) ((equality a x).1 e))
              | inr r ↦ elim (n.is.closed.rest a r) [ inl t ↦ inl (or_right (same a x) (n.test a) t) | inr t ↦ inr t ]
            ];
          };
          least = λ N T c a h. elim (or_cases (same a x) (n.test a) h) [
            | inl s ↦ subst (λ y. IsTrue (N y)) (sym ((equality a x).0 s)) (needed N T c)
            | inr r ↦ n.is.least N T (below N T c) a r
          ];
        };
      }

  pub some_module : (seed : E → Bool) (xs : List A) → SomeModule L seed (Has xs)
  some_module seed [] = record {
    test = λ _. false;
    closure = seed;
    is = record {
      within = λ a h. absurd (not_both h refl);
      only = λ e h. inl h;
      closed = record { has_seed = λ e h. h; has_symbols = λ a e h s. absurd (not_both h refl); rest = λ a h. absurd h };
      least = λ N T c a h. absurd (not_both h refl);
    };
  }
  some_module seed (x ∷ xs) =
      let m = some_module seed xs in
      elim (either (L.local m.closure x)) [ inl t ↦ local_first seed x xs m t | inr f ↦ first_needed seed x xs m f (some_module (λ e. seed e || L.sig x e) xs) ]
