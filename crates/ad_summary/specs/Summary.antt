-- The summary of an ontology.
use Rattle.std.specs.Prelude.{◌≡◌, ℕ, List, ◌++◌, Option, length}
use Rattle.std.specs.List.{sum_by}
use Rattle.ad_base.specs.declared.limits.Kind.{Kind}
use Rattle.ad_base.specs.declared.limits.Kind.TheVariants as kinds
use Rattle.ad_edition.specs.Edition.{Whole}
use Rattle.ad_io.specs.Sink.{Puts}
use Rattle.ad_io.specs.declared.writes.Wrote.{Wrote}
use Rattle.ad_numbered.specs.Numbered.{entities_of}
use Rattle.ad_ontology_atoms.specs.OntologyAtoms.{IsShapeOf}
use Rattle.ad_reply.specs.Atoms.{shape_in}
use Rattle.ad_reply.specs.Bodies.{carried_count}
use Rattle.ad_shapes.specs.Shapes.{Shape}
use Rattle.ad_summary.specs.Lines.{axioms_line, kind_line, tautologies_line}
use Rattle.ad_syntax_laws.specs.OntologyModule.{logical}
use Rattle.ad_tree.specs.declared.axioms.Noted.{Noted}

-- how many pairs of an atom and one that it covers there are
abbrev pub cover_count : Shape → ℕ
cover_count shape = sum_by (λ covered. length covered) shape.covers

-- the line of a kind whose atoms look so
abbrev pub line_of_kind : Kind → Shape → List ℕ
line_of_kind kind shape = kind_line kind (length shape.sizes) (cover_count shape)

-- the line of the ontology's counts
abbrev pub line_of_axioms : List Noted → List ℕ
line_of_axioms ontology = axioms_line (length (logical ontology)) (carried_count ontology) (length (entities_of (logical ontology)))

-- the summary of an ontology whose atoms of each kind look so
abbrev pub summary_text : List Noted → (Kind → Shape) → List ℕ
summary_text ontology shape =
    line_of_axioms ontology ++ tautologies_line (shape kinds.Bottom).tautologies
    ++ line_of_kind kinds.Bottom (shape kinds.Bottom) ++ line_of_kind kinds.Top (shape kinds.Top) ++ line_of_kind kinds.Star (shape kinds.Star)

-- The text tells how many axioms the ontology has, logical and carried, how many entities are in their signatures, how
-- many tautologies there are, and of each kind how many atoms, and how many pairs of one and another that it covers.
pub record IsSummaryOf (ontology : List Noted) (text : List ℕ) : Type 0 where
  pub shape : Kind → Shape
  pub are : (kind : Kind) → IsShapeOf kind ontology (shape kind)
  pub told : text ≡ summary_text ontology shape

-- the text is the ontology's summary, and it was written, or a front of it
pub record PutsSummary (ontology : List Noted) (old new : Option (List ℕ)) (wrote : Wrote) : Type 0 where
  pub text : List ℕ
  pub is : IsSummaryOf ontology text
  pub puts : Puts old new wrote text

-- the summary of an edition, by the atoms of its slots
abbrev pub summary_in : Whole → List ℕ
summary_in edition = summary_text edition.shown.axioms (λ kind. shape_in kind edition)
