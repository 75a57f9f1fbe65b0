-- What is found of the modules of all axioms: their rows, the rows of tasks, and the atoms.
use Rattle.std.specs.Prelude.{ℕ, Bool, List, Option, Some, None, map, set, replicate, slice_index_or}
use Rattle.std.specs.Option.{option_map}
use Rattle.std.specs.Arc.{arc_value}
use Rattle.std.specs.declared.sync.Arc.{Arc}
use Rattle.ad_base.specs.declared.limits.Kind.{Kind}
use Rattle.ad_base.specs.declared.limits.Kind.TheVariants.{Bottom, Top, Star}

-- the rows of slots that may share them
abbrev pub rows_in : {Z : Type 0} → List (Option (Arc (List Bool) Z)) → List (Option (List Bool))
rows_in {Z} rows = map (option_map (λ (row : Arc (List Bool) Z). arc_value row)) rows

-- for each kind the row of each slot, where it has one
pub record Tables : Type 0 where
  pub bottom : List (Option (List Bool))
  pub top : List (Option (List Bool))
  pub star : List (Option (List Bool))

abbrev pub of_kind : Tables → Kind → List (Option (List Bool))
of_kind tables Bottom = tables.bottom
of_kind tables Top = tables.top
of_kind tables Star = tables.star

-- the row of a slot; there is none for a number that is no slot's
abbrev pub row_of : Tables → Kind → ℕ → Option (List Bool)
row_of tables kind slot = slice_index_or (of_kind tables kind) slot None

-- so many slots without a row
abbrev pub without_rows : ℕ → Tables
without_rows slots = record { bottom = replicate slots None; top = replicate slots None; star = replicate slots None }

-- the same, with this row of the slot
abbrev pub with_row : Tables → Kind → ℕ → List Bool → Tables
with_row tables Bottom slot row = record { bottom = set tables.bottom slot (Some row); top = tables.top; star = tables.star }
with_row tables Top slot row = record { bottom = tables.bottom; top = set tables.top slot (Some row); star = tables.star }
with_row tables Star slot row = record { bottom = tables.bottom; top = tables.top; star = set tables.star slot (Some row) }

-- atoms, numbered: that of each slot's axiom, where it is in one; of each atom its first slot and how many axioms it
-- has; and how many axioms are tautologies
pub record Numbered : Type 0 where
  pub atom_of : List (Option ℕ)
  pub firsts : List ℕ
  pub sizes : List ℕ
  pub tautologies : ℕ
