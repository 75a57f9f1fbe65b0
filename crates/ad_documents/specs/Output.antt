-- What a command writes.
use Rattle.std.specs.Prelude.{◌≡◌, ℕ, List, [], None}
use Rattle.ad_base.specs.Limits.{standard}
use Rattle.ad_base.specs.declared.limits.Kind.{Kind}
use Rattle.ad_tree.specs.declared.axioms.Noted.{Noted}
use Rattle.ad_tree.specs.declared.edits.Op.{Op}
use Rattle.ad_apply.specs.Apply.{applied}
use Rattle.ad_edition.specs.Limit.{passed}
use Rattle.ad_atoms_text.specs.AtomsText.{atoms_text}
use Rattle.ad_ontology_atoms.specs.OntologyAtoms.{IsShapeOf}
use Rattle.ad_read.specs.Texts.{IsDocument}
use Rattle.ad_reply.specs.Bodies.{IsModuleDocument}
use Rattle.ad_shapes.specs.Shapes.{Shape}
use Rattle.ad_split.specs.Parts.{IsPartsText}
use Rattle.ad_command.specs.Command.{Command, of_module, of_atoms, of_script, of_split, of_generate, of_summary}

-- the text is a document, and this is its ontology, which is within the limits
pub record IsOntology (text : List ℕ) (ontology : List Noted) : Type 0 where
  pub ops : List Op
  pub spelled : IsDocument standard.depth text ops
  pub applied_are : ontology ≡ applied [] ops
  pub within : passed standard 0 ontology ≡ None

-- the text is no document of an ontology within the limits
abbrev pub IsNoOntology : List ℕ → Type 0
IsNoOntology text = (ontology : List Noted) → IsOntology text ontology → ⊥

-- the text lists the ontology's atoms of this kind
pub record IsAtomsText (kind : Kind) (ontology : List Noted) (text : List ℕ) : Type 0 where
  pub shape : Shape
  pub shaped : IsShapeOf kind ontology shape
  pub listed : text ≡ atoms_text shape

-- the output of a command on an ontology; a command that reads no document has none
abbrev pub IsOut : Command → List Noted → List ℕ → Type 0
IsOut (of_module kind seed) ontology output = IsModuleDocument kind seed ontology output
IsOut (of_atoms kind workers) ontology output = IsAtomsText kind ontology output
IsOut (of_script workers) ontology output = ⊥
IsOut (of_split kind) ontology output = IsPartsText kind ontology output
IsOut (of_generate size) ontology output = ⊥
IsOut (of_summary size workers) ontology output = ⊥

-- the output of a command on a text
pub record IsOutput (command : Command) (text output : List ℕ) : Type 0 where
  pub ontology : List Noted
  pub read : IsOntology text ontology
  pub is : IsOut command ontology output
