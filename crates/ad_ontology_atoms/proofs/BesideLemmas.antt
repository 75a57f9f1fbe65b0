-- Numbers that go beside distinct axioms.
use Rattle.std.proofs.Common.{◌≡◌, ℕ, Bool, true, false, cond, List, [], ◌∷◌, map, inl, inr, sym, ap, ◌∙◌}
use Rattle.std.specs.List.{IsDistinct, AllByRecursion}
use Rattle.std.proofs.lemmas.Map.Keys.{IsDistinct-head, IsDistinct-tail}
use Rattle.ad_theory.specs.Listed.{IsEqualityTest}
use Rattle.ad_theory.proofs.Members.{Has}

module _ {A : Type 0} (same : A → A → Bool) where
  -- the number beside an axiom
  abbrev pub number_beside : List (ℕ × A) → A → ℕ
  number_beside [] a = 0
  number_beside (p ∷ pairs) a = cond (same p.1 a) p.0 (number_beside pairs a)

  -- an axiom that differs from all of the list differs from each
  apart : (x : A) (pairs : List (ℕ × A)) → AllByRecursion (λ y. same x y ≡ false) (map (λ p. p.1) pairs) → (p : ℕ × A) → Has pairs p → same x p.1 ≡ false
  apart x [] all p h = absurd h
  apart x (q ∷ pairs) all p (inl e) = ap (λ r. same x r.1) e ∙ all.0
  apart x (q ∷ pairs) all p (inr h) = apart x pairs all.1 p h

  pub number_is : IsEqualityTest same → (pairs : List (ℕ × A)) → IsDistinct same (map (λ p. p.1) pairs) → (p : ℕ × A) → Has pairs p → number_beside pairs p.1 ≡ p.0
  number_is equality [] distinct p h = absurd h
  number_is equality (q ∷ pairs) distinct p (inl e) =
      let here : same q.1 p.1 ≡ true = (equality q.1 p.1).1 (ap (λ r. r.1) (sym e)) in
      rw here (ap (λ r. r.0) (sym e))
  number_is equality (q ∷ pairs) distinct p (inr h) =
      let other : same q.1 p.1 ≡ false = apart q.1 pairs (IsDistinct-head same q.1 (map (λ p. p.1) pairs) distinct) p h in
      rw other (number_is equality pairs (IsDistinct-tail same q.1 (map (λ p. p.1) pairs) distinct) p h)
