-- Slots without rows.
use Rattle.std.proofs.Common.{◌≡◌, ℕ, zero, suc, Bool, List, ◌∷◌, Option, None, replicate, refl, ap, ◌∙◌}
use Rattle.std.specs.declared.sync.Arc.{Arc}
use Rattle.ad_tables.specs.Rows.{rows_in}

pub none_in : {Z : Type 0} (slots : ℕ) (rows : List (Option (Arc (List Bool) Z))) → rows ≡ replicate slots None → rows_in rows ≡ replicate slots None
none_in {Z} slots rows e = ap (rows_in {Z = Z}) e ∙ nothing slots
  where
    nothing : (n : ℕ) → rows_in {Z = Z} (replicate n None) ≡ replicate n None
    nothing zero = refl
    nothing (suc n) = ap (λ xs. None ∷ xs) (nothing n)
