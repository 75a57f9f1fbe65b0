-- Atoms of rows, and the rows of those on which they depend.
use Rattle.std.specs.Prelude.{◌≡◌, ◌≢◌, ◌↔◌, ℕ, ◌<◌, ◌≤◌, Bool, List, length, slice_index, slice_index_or, IsTrue}
use Rattle.ad_base.specs.declared.limits.Kind.{Kind}
use Rattle.ad_bits.specs.Rows.{has}
use Rattle.ad_tables.specs.Rows.{Tables, Numbered, of_kind}
use Rattle.ad_decomposition.specs.Atoms.{AreAtoms, covers, firsts}
use Rattle.ad_decomposition.specs.Tables.{AreNested, HaveRows, is_in_row_of}

-- the atoms are those of the ontology's axioms in this order, whose rows the tables hold
pub record AreAtomsOfOrder (tables : Tables) (kind : Kind) (order : List ℕ) (atoms : Numbered) : Type 0 where
  pub rows : HaveRows tables kind (length (of_kind tables kind)) order
  pub nested : AreNested (is_in_row_of tables kind) order
  pub numbered : AreAtoms (is_in_row_of tables kind) order atoms

-- the same, for some order
abbrev pub AreAtomsOfRows : Tables → Kind → Numbered → Type 0
AreAtomsOfRows tables kind atoms = (order : List ℕ) × AreAtomsOfOrder tables kind order atoms

-- the slot is the first of one of the atoms that begin with these
abbrev pub IsFirst : List ℕ → ℕ → Type 0
IsFirst firsts s = (k : ℕ) × (k < length firsts) × (slice_index firsts k ≡ s)

-- the row has the first slots of the other atoms on which the one that begins with a depends
abbrev pub HasBelow : (ℕ → ℕ → Bool) → List ℕ → ℕ → List Bool → Type 0
HasBelow G firsts a row = (s : ℕ) → IsTrue (has row s) ↔ (IsFirst firsts s × (s ≢ a) × IsTrue (G a s))

-- the row over the atoms has those that the atom i covers
abbrev pub HasCovers : (ℕ → ℕ → Bool) → List ℕ → ℕ → List Bool → Type 0
HasCovers G order i row = (j d : ℕ) → j < length (firsts G order) →
    has row j ≡ covers G order (slice_index_or (firsts G order) i d) (slice_index_or (firsts G order) j d)

-- a member of the row than which none is larger
abbrev pub IsLargestOf : (ℕ → ℕ) → List Bool → ℕ → Type 0
IsLargestOf size row m = IsTrue (has row m) × ((k : ℕ) → IsTrue (has row k) → size k ≤ size m)
