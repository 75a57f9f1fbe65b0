-- Tables in which one place is given.
use Rattle.std.proofs.Common.{◌≡◌, ℕ, zero, suc, Bool, ◌⊎◌, List, [], ◌∷◌, Option, Some, None, set, get_or, replicate, inl, inr, refl, sym, subst, ap, ◌∙◌}
use Rattle.ad_bits.specs.Rows.{has}
use Rattle.ad_theory.specs.Module.{Logic, IsAntitone}
use Rattle.ad_joined.specs.Searched.{IsSearchedRow, IsSideRow}
use Rattle.ad_joined.specs.Wholes.{AreWholes}
use Rattle.ad_joined.specs.declared.whole.Whole.{Whole}
use Rattle.ad_joined.proofs.Joins.{searched_module}

-- what stands in the table at a place after that: what was given there, or what stood there
pub set_cases : {A : Type 0} (xs : List (Option A)) (at i : ℕ) (x y : A) → get_or (set xs at (Some x)) i None ≡ Some y → ((i ≡ at) × (x ≡ y)) ⊎ (get_or xs i None ≡ Some y)
set_cases [] at i x y h = inr h
set_cases (z ∷ xs) zero zero x y h = inl (refl, (let e : Some x ≡ Some y = h in cc))
set_cases (z ∷ xs) zero (suc i) x y h = inr h
set_cases (z ∷ xs) (suc at) zero x y h = inr h
set_cases (z ∷ xs) (suc at) (suc i) x y h = elim (set_cases xs at i x y h) [ inl r ↦ inl (ap suc r.0, r.1) | inr r ↦ inr r ]

apart : {A : Type 0} (y : A) → None ≡ Some y → ⊥
apart y h = cc

-- in a table with nothing there is nothing
pub none_there : {A : Type 0} (n i : ℕ) (y : A) → get_or (replicate n None) i None ≡ Some y → ⊥
none_there zero i y h = apart y h
none_there (suc n) zero y h = apart y h
none_there (suc n) (suc i) y h = none_there n i y h

module _ (L : Logic ℕ ℕ) (live : ℕ → Bool) (slots symbols : ℕ) where
  pub no_wholes : (table : List (Option Whole)) (n : ℕ) → table ≡ replicate n None → AreWholes L live slots symbols table
  no_wholes table n e slot whole h = absurd (none_there n slot whole (ap (λ t. get_or t slot None) (sym e) ∙ h))

  pub wholes_more : (table : List (Option Whole)) (slot : ℕ) (whole : Whole) → AreWholes L live slots symbols table
      → IsSearchedRow L live slots symbols slot whole.row whole.closure → AreWholes L live slots symbols (set table slot (Some whole))
  wholes_more table slot whole are new i other h = elim (set_cases table slot i whole other h) [
    | inl r ↦ subst (λ k. IsSearchedRow L live slots symbols k other.row other.closure) (sym r.0) (subst (λ w. IsSearchedRow L live slots symbols slot w.row w.closure) r.1 new)
    | inr r ↦ are i other r
  ]

  pub side_row : IsAntitone L → (slot : ℕ) (row closure : List Bool) → IsSearchedRow L live slots symbols slot row closure → IsSideRow L live slots slot row
  side_row antitone slot row closure s = record { size = s.row_size; found = (has closure, searched_module L antitone s.searched) }
