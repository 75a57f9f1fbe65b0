-- What sources lose and sinks gain, where they tell it, and how counts of faults rise.
-- A source or a sink that tells after a call told before it, so one that has ceased to tell never tells again.
use Rattle.std.specs.Prelude.{◌≡◌, ℕ, ◌+◌, ◌-◌, ◌^◌, ◌≤◌, List, [], ◌++◌, Option, None, Some, min, length}

-- what was left begins with these bytes, and loses them
abbrev pub Loses : Option (List ℕ) → Option (List ℕ) → List ℕ → Type 0
Loses old None bytes = Unit {0}
Loses None (Some ys) bytes = ⊥
Loses (Some xs) (Some ys) bytes = xs ≡ bytes ++ ys

-- that many bytes are lost
pub record LosesExactly (old new : Option (List ℕ)) (count : ℕ) : Type 0 where
  pub bytes : List ℕ
  pub counted : length bytes ≡ count
  pub lost : Loses old new bytes

-- at most that many bytes are lost
pub record LosesAtMost (old new : Option (List ℕ)) (most : ℕ) : Type 0 where
  pub bytes : List ℕ
  pub within : length bytes ≤ most
  pub lost : Loses old new bytes

-- these bytes are appended to what was written
abbrev pub Gains : Option (List ℕ) → Option (List ℕ) → List ℕ → Type 0
Gains old None bytes = Unit {0}
Gains None (Some ys) bytes = ⊥
Gains (Some xs) (Some ys) bytes = ys ≡ xs ++ bytes

-- a front of these bytes is appended to what was written
pub record GainsFront (old new : Option (List ℕ)) (bytes : List ℕ) : Type 0 where
  pub front : List ℕ
  pub rest : List ℕ
  pub whole : bytes ≡ front ++ rest
  pub gained : Gains old new front

-- nothing is left, where that is told
abbrev pub IsAtEnd : Option (List ℕ) → Type 0
IsAtEnd None = Unit {0}
IsAtEnd (Some xs) = xs ≡ []

-- the next value of a count, which stays at the greatest `u64`
abbrev pub raised : ℕ → ℕ
raised count = min (count + 1) (2 ^ 64 - 1)

-- the count rose; one that stands at the greatest `u64` counts as risen
abbrev pub Rose : ℕ → ℕ → Type 0
Rose before now = raised before ≤ now

-- the count did not rise
abbrev pub NotRisen : ℕ → ℕ → Type 0
NotRisen before now = Rose before now → ⊥
