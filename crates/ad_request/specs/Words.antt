-- A line's words: what stands before the first space, and what stands from there on.
use Rattle.std.specs.Prelude.{◌≡◌, ◌≢◌, ℕ, List, ◌++◌, slice_index, EachIndex}

-- there is no space in the text
abbrev pub HasNoSpace : List ℕ → Type 0
HasNoSpace text = EachIndex text (λ i. slice_index text i ≢ 32)

-- the text is cut at its first space, with which the second part begins
pub record IsCut (text front back : List ℕ) : Type 0 where
  pub whole : text ≡ front ++ back
  pub word : HasNoSpace front
  pub space : slice_index back 0 ≡ 32
