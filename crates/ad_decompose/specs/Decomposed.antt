-- The decomposition of an ontology whose axioms are slots.
use Rattle.std.specs.Prelude.{◌≡◌, ℕ, ◌<◌, Bool, List, length, slice_index_or}
use Rattle.ad_base.specs.declared.limits.Kind.{Kind}
use Rattle.ad_base.specs.declared.limits.Kind.TheVariants.{Bottom, Top, Star}
use Rattle.ad_base.specs.declared.limits.Side.{Side}
use Rattle.ad_bits.specs.Rows.{has}
use Rattle.ad_tables.specs.Rows.{Tables, Numbered}
use Rattle.ad_decomposition.specs.Atoms.{AreAtoms, AreCovers, is_top}
use Rattle.ad_decomposition.specs.Tables.{AreGenuine, is_in_row_of}
use Rattle.ad_depend.specs.Covered.{Covered}

-- the atoms of a kind, and the covers between them
pub record Atomic : Type 0 where
  pub atoms : Numbered
  pub covers : Covered

-- the genuine modules of all axioms, and for each kind the atoms with their covers
pub record Decomposed : Type 0 where
  pub tables : Tables
  pub bottom : Atomic
  pub top : Atomic
  pub star : Atomic

abbrev pub atomic_of : Decomposed → Kind → Atomic
atomic_of found Bottom = found.bottom
atomic_of found Top = found.top
atomic_of found Star = found.star

-- whether the axiom b is in the genuine module of the axiom a
abbrev pub genuine_of : Decomposed → Kind → ℕ → ℕ → Bool
genuine_of found kind a b = is_in_row_of found.tables kind a b

-- the atoms and covers are those that G and the order define, where G says which axioms are in the genuine module of one
pub record AreAtomic (G : ℕ → ℕ → Bool) (order : List ℕ) (atomic : Atomic) : Type 0 where
  pub atoms_are : AreAtoms G order atomic.atoms
  pub covers_are : AreCovers G order atomic.covers.rows
  pub tops_are : (j d : ℕ) → j < length atomic.covers.rows → has atomic.covers.tops j ≡ is_top G order (slice_index_or atomic.atoms.firsts j d)

-- The decomposition of the live axioms, listed in the ontology's order: their genuine modules as rows over so many slots,
-- and of each kind the atoms and covers that these define.
pub record IsDecomposition (symbols : ℕ → List ℕ) (local : Side → (ℕ → Bool) → ℕ → Bool) (live : ℕ → Bool) (slots : ℕ) (order : List ℕ) (found : Decomposed) : Type 0 where
  pub genuine : AreGenuine symbols local live slots found.tables
  pub atomic : (kind : Kind) → AreAtomic (genuine_of found kind) order (atomic_of found kind)
