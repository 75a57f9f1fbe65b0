-- The text of an edition's counts.
use Rattle.std.specs.Prelude.{ℕ, List, [], ◌∷◌, ◌++◌, length, codes, decimal}
use Rattle.ad_base.specs.declared.limits.Kind.TheVariants as kinds
use Rattle.ad_decompose.specs.Decomposed.{atomic_of}
use Rattle.ad_edition.specs.Edition.{Whole}
use Rattle.ad_lines.specs.Lines.{line_of}
use Rattle.ad_numbered.specs.Numbered.{entities_of}
use Rattle.ad_syntax_laws.specs.OntologyModule.{logical}
use Rattle.ad_write.specs.Canonical.{canon_document}
use Rattle.ad_reply.specs.Bodies.{carried_count}
use Rattle.ad_reply.specs.declared.stat.Stat.{Stat}

-- the counts of an edition
abbrev pub stat_in : Whole → Stat
stat_in edition = record {
  axioms = length (logical edition.shown.axioms);
  carried = carried_count edition.shown.axioms;
  entities = length (entities_of (logical edition.shown.axioms));
  bytes = length (canon_document edition.shown.axioms);
  tautologies = (atomic_of edition.found kinds.Bottom).atoms.tautologies;
  bottom = length (atomic_of edition.found kinds.Bottom).atoms.firsts;
  top = length (atomic_of edition.found kinds.Top).atoms.firsts;
  star = length (atomic_of edition.found kinds.Star).atoms.firsts;
}

abbrev pub axioms_line : Stat → List ℕ
axioms_line s = line_of (codes "axioms" ∷ decimal s.axioms ∷ codes "carried" ∷ decimal s.carried ∷ codes "entities" ∷ decimal s.entities ∷ codes "bytes" ∷ decimal s.bytes ∷ [])

abbrev pub tautologies_line : Stat → List ℕ
tautologies_line s = line_of (codes "tautologies" ∷ decimal s.tautologies ∷ [])

abbrev pub atoms_line : Stat → List ℕ
atoms_line s = line_of (codes "atoms" ∷ codes "bottom" ∷ decimal s.bottom ∷ codes "top" ∷ decimal s.top ∷ codes "star" ∷ decimal s.star ∷ [])

-- the three lines of counts
abbrev pub stat_lines : Stat → List ℕ
stat_lines s = axioms_line s ++ tautologies_line s ++ atoms_line s
