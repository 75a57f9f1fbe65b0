-- Lists of slots by symbols, and how they change.
use Rattle.std.specs.Prelude.{◌≡◌, ℕ, List, [], IsTrue, IsFalse, slice_index_or}
use Rattle.smallvec.specs.SmallVec.{SmallVec}
use Rattle.ad_theory.specs.Numbers.{among}

abbrev pub no_list : SmallVec ℕ
no_list = record { items = []; capacity = 0 }

-- the list of a symbol, with its room; a symbol past the end has an empty one without room
abbrev pub list_at : List (SmallVec ℕ) → ℕ → SmallVec ℕ
list_at lists s = slice_index_or lists s no_list

-- the slots in the list of a symbol
abbrev pub list_of : List (SmallVec ℕ) → ℕ → List ℕ
list_of lists s = (list_at lists s).items

-- the lists of these symbols have changed in this way, and no others
pub record AreChanged (change : List ℕ → List ℕ → Type 0) (symbols : List ℕ) (before after : List (SmallVec ℕ)) : Type 0 where
  pub touched : (s : ℕ) → IsTrue (among symbols s) → change (list_of before s) (list_of after s)
  pub others : (s : ℕ) → IsFalse (among symbols s) → list_of after s ≡ list_of before s
