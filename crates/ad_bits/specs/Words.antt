-- A row as words of 64 bits each.
use Rattle.std.specs.Prelude.{◌≡◌, ◌≢◌, ◌==◌, ℕ, ◌+◌, ◌*◌, ◌/◌, ◌%◌, ◌^◌, ◌≤◌, ◌<◌, Bool, List, map, length, slice_index, IsTrue, IsFalse}
use Rattle.std.specs.Int.{bit_at}
use Rattle.std.specs.List.{range_with_len}

-- whether bit i of the words is set
unfoldable pub bit_in : List ℕ → ℕ → Bool
bit_in words i = bit_at (slice_index words (i / 64)) (i % 64) == 1

-- the first `size` bits
unfoldable pub first_bits : ℕ → List ℕ → List Bool
first_bits size words = map (bit_in words) (range_with_len 0 size)

-- how many words a row of this size has: as many as fill whole vectors of four lanes
abbrev pub words_for : ℕ → ℕ
words_for size = 4 * ((size + 255) / 256)

-- the words have room for the row, and no bit at or above its size is set
pub record AreWordsOf (size : ℕ) (words : List ℕ) : Type 0 where
  pub fits : size < 2 ^ 32
  pub room : length words ≡ words_for size
  pub none_above : (i : ℕ) → size ≤ i → IsFalse (bit_in words i)

-- the words are whole vectors of four lanes
abbrev pub AreLanes : List ℕ → Type 0
AreLanes words = length words % 4 ≡ 0

-- each bit is the same in both
abbrev pub SameBits : List ℕ → List ℕ → Type 0
SameBits left right = (i : ℕ) → bit_in left i ≡ bit_in right i

-- each bit of the first is a bit of the second
abbrev pub AreWithin : List ℕ → List ℕ → Type 0
AreWithin left right = (i : ℕ) → IsTrue (bit_in left i) → IsTrue (bit_in right i)

-- some bit of the first is not set in the second
abbrev pub HasBeyond : List ℕ → List ℕ → Type 0
HasBeyond left right = (i : ℕ) × IsTrue (bit_in left i) × IsFalse (bit_in right i)

-- some bit is set in both
abbrev pub Share : List ℕ → List ℕ → Type 0
Share left right = (i : ℕ) × IsTrue (bit_in left i) × IsTrue (bit_in right i)

-- the bit is the lowest that is set at or above `from`
pub record IsLowestFrom (words : List ℕ) (from i : ℕ) : Type 0 where
  pub at_or_above : from ≤ i
  pub set : IsTrue (bit_in words i)
  pub none_between : (k : ℕ) → from ≤ k → k < i → IsFalse (bit_in words k)

-- four words from `at` on are f of what they and the other's were, and the others stay
pub record ChangesLanes (f : ℕ → ℕ → ℕ) (old new other : List ℕ) (at : ℕ) : Type 0 where
  pub inside : (k : ℕ) → at ≤ k → k < at + 4 → slice_index new k ≡ f (slice_index old k) (slice_index other k)
  pub below : (k : ℕ) → k < at → slice_index new k ≡ slice_index old k
  pub above : (k : ℕ) → at + 4 ≤ k → slice_index new k ≡ slice_index old k

-- f of some two of four words from `at` on is not 0
pub record SomeLane (f : ℕ → ℕ → ℕ) (left right : List ℕ) (at : ℕ) : Type 0 where
  pub lane : ℕ
  pub from : at ≤ lane
  pub within : lane < at + 4
  pub set : f (slice_index left lane) (slice_index right lane) ≢ 0

-- f of any two of four words from `at` on is 0
abbrev pub NoLane : (ℕ → ℕ → ℕ) → List ℕ → List ℕ → ℕ → Type 0
NoLane f left right at = (k : ℕ) → at ≤ k → k < at + 4 → f (slice_index left k) (slice_index right k) ≡ 0
