-- What is written of numbered atoms and the rows of their covers.
use Rattle.std.specs.Prelude.{ℕ, ◌+◌, Bool, List, [], ◌∷◌, ◌++◌, decimal, drop, length, slice_index}
use Rattle.std.specs.List.{flat_map}
use Rattle.ad_tables.specs.Rows.{Numbered}
use Rattle.ad_depend.specs.Covered.{Covered}
use Rattle.ad_shapes.specs.Shapes.{places_where}
use Rattle.ad_atoms_text.specs.AtomsText.{atom_line, head_line}

-- the members of a row from this number on, rising
abbrev pub members_from : ℕ → List Bool → List ℕ
members_from from row = places_where (λ b. b) from (drop from row)

-- the members of a row, rising
abbrev pub members : List Bool → List ℕ
members row = members_from 0 row

-- numbers behind a word on a line: a space before each
abbrev pub numbers : List ℕ → List ℕ
numbers ns = flat_map (λ n. 32 ∷ decimal n) ns

-- the lines of the atoms whose covers are in these rows, of which the first is that of this atom
abbrev pub lines_of : (ℕ → ℕ) → ℕ → List (List Bool) → List ℕ
lines_of size atom [] = []
lines_of size atom (row ∷ rows) = atom_line atom (size atom) (members row) ++ lines_of size (atom + 1) rows

-- the first line, and the line of each atom
abbrev pub listing : Numbered → Covered → List ℕ
listing atoms covered = head_line (length atoms.firsts) atoms.tautologies ++ lines_of (slice_index atoms.sizes) 0 covered.rows
