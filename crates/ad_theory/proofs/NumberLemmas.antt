-- Modules of numbered axioms: what lies below a bound is covered by a list.
use Rattle.std.proofs.Common.{ℕ, zero, suc, ◌<◌, ◌==◌, Bool, ◌&&◌, List, [], ◌∷◌, IsTrue, inl, inr, eqb-true, eq-eqb, not-suc-le-zero, eq-or-lt_of_le, le_of_suc-le-suc}
use Rattle.std.specs.List.{filter}
use Rattle.ad_base.specs.declared.limits.Kind.{Kind}
use Rattle.ad_theory.specs.Module.{Logic, IsAntitone}
use Rattle.ad_theory.specs.Listed.{IsEqualityTest}
use Rattle.ad_theory.proofs.Members.{Has, and_intro, and_left, and_right, has_filter, filter_has}
use Rattle.ad_theory.proofs.KindLemmas.{SomeOfKind, some_of_kind}

pub same_number : IsEqualityTest (λ (a b : ℕ). a == b)
same_number a b = (eqb-true a b, eq-eqb a b)

numbers_below : ℕ → List ℕ
numbers_below zero = []
numbers_below (suc n) = n ∷ numbers_below n

has_below : (n i : ℕ) → i < n → Has (numbers_below n) i
unfolding numbers_below
has_below zero i l = absurd (not-suc-le-zero l)
has_below (suc n) i l = elim (eq-or-lt_of_le (le_of_suc-le-suc l)) [ inl e ↦ inl e | inr q ↦ inr (has_below n i q) ]

module _ (B T : Logic ℕ ℕ) (bottom : IsAntitone B) (top : IsAntitone T) (seed live within : ℕ → Bool) (n : ℕ) (below : (i : ℕ) → IsTrue (live i) → i < n) where
  pub some_numbered : (kind : Kind) → SomeOfKind kind B T seed (λ i. IsTrue (live i) × IsTrue (within i))
  some_numbered kind =
      let test : ℕ → Bool = λ i. live i && within i in
      some_of_kind B T bottom top (λ a b. a == b) same_number seed (λ i. IsTrue (live i) × IsTrue (within i)) (filter test (numbers_below n))
      (λ i. (
        (λ o. has_filter test (numbers_below n) i (has_below n i (below i o.0)) (and_intro (live i) (within i) o.0 o.1)),
        (λ h. let t = (filter_has test (numbers_below n) i h).1 in (and_left (live i) (within i) t, and_right (live i) (within i) t)),
      ))
      kind
