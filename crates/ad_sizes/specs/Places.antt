-- Numbers of slots by their binary places, the lowest first: for each place a row of the slots whose numbers lack it.
use Rattle.std.specs.Prelude.{◌≡◌, ℕ, ◌+◌, ◌*◌, ◌<◌, ◌⊎◌, ◌&&◌, not, Bool, List, [], ◌∷◌, map, length, slice_index_or, if◌then◌else◌}
use Rattle.std.specs.List.{range_with_len}
use Rattle.ad_bits.specs.Rows.{has, IsSubset, HasOutside}

-- what the lowest place adds
abbrev pub lowest : List Bool → ℕ → ℕ
lowest lacking slot = if has lacking slot then 0 else 1

-- the slot's number, where its places above these make up `rest`
abbrev pub number_over : ℕ → List (List Bool) → ℕ → ℕ
number_over rest [] slot = rest
number_over rest (lacking ∷ places) slot = lowest lacking slot + 2 * number_over rest places slot

-- the numbers of so many slots
unfoldable pub numbers_of : ℕ → List (List Bool) → List ℕ
numbers_of slots places = map (number_over 0 places) (range_with_len 0 slots)

-- each row is over so many slots
abbrev pub AreOver : ℕ → List (List Bool) → Type 0
AreOver slots places = (k : ℕ) → k < length places → length (slice_index_or places k []) ≡ slots

-- Those that lack the place went from the members, unless all members lack it.
abbrev pub KeepsHaving : List Bool → List Bool → List Bool → Type 0
KeepsHaving lacking old new = (IsSubset old lacking × (new ≡ old)) ⊎ (HasOutside old lacking × ((k : ℕ) → has new k ≡ (has old k && not (has lacking k))))
