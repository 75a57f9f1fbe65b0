-- The symbols of what was added, and where they stand.
use Rattle.std.specs.Prelude.{◌≡◌, ℕ, ◌<◌, ◌⊎◌, Bool, Some, List, [], length, slice_index_or, IsTrue}
use Rattle.ad_base.specs.declared.limits.Kind.{Kind}
use Rattle.ad_bits.specs.Rows.{has, Meets}
use Rattle.ad_theory.specs.Numbers.{among}
use Rattle.ad_tables.specs.Rows.{Tables, of_kind, row_of}
use Rattle.ad_decomposition.specs.Affected.{Change}
use Rattle.ad_repair.specs.Changes.{stands_in}
use Rattle.ad_repair.specs.declared.touched.Touched.{Touched}

-- the rows of holders are over so many slots, one for each symbol, and the symbols are below their number
pub record IsSized (slots symbols : ℕ) (touched : Touched) : Type 0 where
  pub long : length touched.holders.items ≡ length touched.symbols.items
  pub holders : (t : ℕ) → t < length touched.holders.items → length (slice_index_or touched.holders.items t []) ≡ slots
  pub near : length touched.near ≡ slots
  pub below : (s : ℕ) → IsTrue (among touched.symbols.items s) → s < symbols

-- It lists the added slots and the symbols in their signatures; each symbol has the row of those slots that stay in
-- whose signatures it stands; and all of these are near.
pub record IsTouched (change : Change) (touched : Touched) : Type 0 where
  pub added : (k : ℕ) → among touched.added.items k ≡ change.added k
  pub symbols : (k s : ℕ) → IsTrue (change.added k) → IsTrue (among (change.after.symbols k) s) → IsTrue (among touched.symbols.items s)
  pub holders : (t i : ℕ) → t < length touched.symbols.items → has (slice_index_or touched.holders.items t []) i ≡ stands_in change (slice_index_or touched.symbols.items t 0) i
  pub near : (t i : ℕ) → t < length touched.symbols.items → IsTrue (has (slice_index_or touched.holders.items t []) i) → IsTrue (has touched.near i)

-- the slot or a member of the row is among the holders
abbrev pub IsHeld : List Bool → ℕ → List Bool → Type 0
IsHeld holders slot row = IsTrue (has holders slot) ⊎ Meets row holders

-- of the touched symbols, seen has those that the slot or a member of the row holds, and no others
pub record IsSeen (touched : Touched) (slot : ℕ) (row seen : List Bool) (n : ℕ) : Type 0 where
  pub held : (t : ℕ) → t < n → IsHeld (slice_index_or touched.holders.items t []) slot row → IsTrue (has seen (slice_index_or touched.symbols.items t 0))
  pub only : (s : ℕ) → IsTrue (has seen s) → (t : ℕ) × (t < n) × (slice_index_or touched.symbols.items t 0 ≡ s) × IsHeld (slice_index_or touched.holders.items t []) slot row

-- the tables are over so many slots, and their rows too
pub record AreOver (slots : ℕ) (tables : Tables) : Type 0 where
  pub long : (kind : Kind) → length (of_kind tables kind) ≡ slots
  pub sizes : (kind : Kind) (i : ℕ) (row : List Bool) → row_of tables kind i ≡ Some row → length row ≡ slots

-- each live slot has a row of live slots
abbrev pub HaveLiveRows : (ℕ → Bool) → Tables → Type 0
HaveLiveRows live tables = (kind : Kind) (i : ℕ) → IsTrue (live i) → (row : List Bool) × (row_of tables kind i ≡ Some row) × ((k : ℕ) → IsTrue (has row k) → IsTrue (live k))
