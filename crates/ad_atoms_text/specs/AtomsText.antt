-- The text that lists atoms.
use Rattle.std.specs.Prelude.{ℕ, ◌+◌, List, [], ◌∷◌, ◌++◌, length, map, codes, decimal}
use Rattle.ad_lines.specs.Lines.{line_of}
use Rattle.ad_shapes.specs.Shapes.{Shape}

-- the atoms that are covered, if any are, as words
abbrev pub needs_words : List ℕ → List (List ℕ)
needs_words [] = []
needs_words (atom ∷ atoms) = codes "needs" ∷ map decimal (atom ∷ atoms)

-- the line of an atom: its number, how many axioms it has, and the atoms that it covers
abbrev pub atom_line : ℕ → ℕ → List ℕ → List ℕ
atom_line atom size covers = line_of (codes "atom" ∷ decimal atom ∷ codes "axioms" ∷ decimal size ∷ needs_words covers)

-- the lines of the atoms with these sizes and covers, of which the first has this number
abbrev pub atom_lines : ℕ → List ℕ → List (List ℕ) → List ℕ
atom_lines atom (size ∷ sizes) (covers ∷ more) = atom_line atom size covers ++ atom_lines (atom + 1) sizes more
atom_lines atom _ _ = []

-- the first line: how many atoms and tautologies there are
abbrev pub head_line : ℕ → ℕ → List ℕ
head_line atoms tautologies = line_of (codes "atoms" ∷ decimal atoms ∷ codes "tautologies" ∷ decimal tautologies ∷ [])

-- the text: the first line, and a line for each atom
abbrev pub atoms_text : Shape → List ℕ
atoms_text shape = head_line (length shape.sizes) shape.tautologies ++ atom_lines 0 shape.sizes shape.covers
