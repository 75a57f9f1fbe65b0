-- Numbers that may be given: those that were released, the last one first, and then the next that was never given.
use Rattle.std.specs.Prelude.{◌≡◌, ℕ, ◌+◌, ◌-◌, ◌⊎◌, Bool, true, not, ◌&&◌, List, [], ◌∷◌, ◌++◌, length, slice_index_or}
use Rattle.ad_theory.specs.Numbers.{among}

-- no number stands in the list twice
abbrev pub are_distinct : List ℕ → Bool
are_distinct [] = true
are_distinct (x ∷ xs) = not (among xs x) && are_distinct xs

-- the number that is given next
abbrev pub spare_number : List ℕ → ℕ → ℕ
spare_number free next = slice_index_or free (length free - 1) next

-- the number was taken from the released ones, or, where there are none, it is the next
abbrev pub IsTaken : List ℕ → ℕ → ℕ → List ℕ → ℕ → Type 0
IsTaken free next number free' next' = ((free ≡ free' ++ number ∷ []) × (next' ≡ next)) ⊎ ((free ≡ []) × (free' ≡ []) × (number ≡ next) × (next' ≡ next + 1))
