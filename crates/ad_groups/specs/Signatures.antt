-- How many signatures the wanted slots have.
use Rattle.std.specs.Prelude.{ℕ, ◌&&◌, Bool, List, length}
use Rattle.std.specs.List.{filter, list_all, range_with_len}
use Rattle.ad_theory.specs.Numbers.{among}
use Rattle.ad_decomposition.specs.Atoms.{firsts_among}

-- whether the lists have the same members
abbrev pub same_members : List ℕ → List ℕ → Bool
same_members xs ys = list_all (among ys) xs && list_all (among xs) ys

-- of the wanted slots, those whose signature is that of none before them
abbrev pub first_slots : (ℕ → List ℕ) → (ℕ → Bool) → ℕ → List ℕ
first_slots symbols wanted slots = firsts_among (λ i k. same_members (symbols i) (symbols k)) (filter wanted (range_with_len 0 slots))

-- how many signatures the wanted slots have, where those with the same members are one
abbrev pub signature_count : (ℕ → List ℕ) → (ℕ → Bool) → ℕ → ℕ
signature_count symbols wanted slots = length (first_slots symbols wanted slots)
