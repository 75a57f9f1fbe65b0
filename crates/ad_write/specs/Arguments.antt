-- The text of arguments, behind those that were written before.
use Rattle.std.specs.Prelude.{ℕ, Bool, true, false, List, [], ◌∷◌, ◌++◌, codes}

-- whether a list has no member
abbrev pub is_empty : {X : Type 0} → List X → Bool
is_empty [] = true
is_empty (x ∷ xs) = false

-- what stands before an argument: nothing if it is the first, else a space
abbrev pub gap : Bool → List ℕ
gap true = []
gap false = 32 ∷ []

-- arguments, each behind its gap; the flag says whether none was written before them
abbrev pub behind : Bool → List (List ℕ) → List ℕ
behind first [] = []
behind first (x ∷ xs) = gap first ++ (x ++ behind false xs)

-- a keyword, the parenthesis, and the first arguments
abbrev pub opened : List ℕ → List (List ℕ) → List ℕ
opened word arguments = word ++ (codes "(" ++ behind true arguments)
