-- A row: a set of numbers below its size, seen as one `Bool` for each of them.
use Rattle.std.specs.Prelude.{ℕ, ◌+◌, ◌≤◌, ◌<◌, Bool, false, not, ◌&&◌, ◌||◌, if◌then◌else◌, List, [], ◌∷◌, slice_index_or, IsTrue, IsFalse}

-- whether the number is a member of the row
abbrev pub has : List Bool → ℕ → Bool
has row i = slice_index_or row i false

-- the numbers that are members of one of the two
abbrev pub union : List Bool → List Bool → List Bool
union [] right = right
union (a ∷ left) [] = a ∷ left
union (a ∷ left) (b ∷ right) = (a || b) ∷ union left right

-- the members of the first that are no members of the second
abbrev pub minus : List Bool → List Bool → List Bool
minus [] right = []
minus (a ∷ left) [] = a ∷ left
minus (a ∷ left) (b ∷ right) = (a && not b) ∷ minus left right

-- how many members the row has
abbrev pub member_count : List Bool → ℕ
member_count [] = 0
member_count (a ∷ row) = (if a then 1 else 0) + member_count row

-- each member of the first is a member of the second
abbrev pub IsSubset : List Bool → List Bool → Type 0
IsSubset left right = (i : ℕ) → IsTrue (has left i) → IsTrue (has right i)

-- some member of the first is no member of the second
abbrev pub HasOutside : List Bool → List Bool → Type 0
HasOutside left right = (i : ℕ) × IsTrue (has left i) × IsFalse (has right i)

-- some number is a member of both
abbrev pub Meets : List Bool → List Bool → Type 0
Meets left right = (i : ℕ) × IsTrue (has left i) × IsTrue (has right i)

-- the number is the least member at or above `from`
pub record IsLeastFrom (row : List Bool) (from i : ℕ) : Type 0 where
  pub at_or_above : from ≤ i
  pub member : IsTrue (has row i)
  pub none_between : (k : ℕ) → from ≤ k → k < i → IsFalse (has row k)

-- the row has no member at or above `from`
abbrev pub HasNoneFrom : List Bool → ℕ → Type 0
HasNoneFrom row from = (k : ℕ) → from ≤ k → IsFalse (has row k)
