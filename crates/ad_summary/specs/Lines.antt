-- The lines of a summary.
use Rattle.std.specs.Prelude.{ℕ, List, [], ◌∷◌, codes, decimal}
use Rattle.ad_base.specs.Kinds.{kind_word}
use Rattle.ad_base.specs.declared.limits.Kind.{Kind}
use Rattle.ad_lines.specs.Lines.{line_of}

-- so many axioms are logical, and so many carried, and so many entities are in signatures
abbrev pub axioms_line : ℕ → ℕ → ℕ → List ℕ
axioms_line axioms carried entities = line_of (codes "axioms" ∷ decimal axioms ∷ codes "carried" ∷ decimal carried ∷ codes "entities" ∷ decimal entities ∷ [])

-- so many axioms are in no module
abbrev pub tautologies_line : ℕ → List ℕ
tautologies_line tautologies = line_of (codes "tautologies" ∷ decimal tautologies ∷ [])

-- there are so many atoms of this kind, and so many pairs of one and another that it covers
abbrev pub kind_line : Kind → ℕ → ℕ → List ℕ
kind_line kind atoms covers = line_of (kind_word kind ∷ codes "atoms" ∷ decimal atoms ∷ codes "covers" ∷ decimal covers ∷ [])
