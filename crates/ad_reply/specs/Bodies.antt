-- The body that answers a query on an ontology.
use Rattle.std.specs.Prelude.{◌≡◌, ℕ, ◌<◌, ◌-◌, ◌==◌, Bool, false, List, [], ◌∷◌, ◌++◌, Option, None, Some, length, map, codes, decimal}
use Rattle.std.specs.List.{filter, zip}
use Rattle.ad_base.specs.declared.limits.Kind.{Kind}
use Rattle.ad_base.specs.declared.limits.Kind.TheVariants as kinds
use Rattle.ad_atoms_text.specs.AtomsText.{atoms_text}
use Rattle.ad_lines.specs.Lines.{line_of}
use Rattle.ad_locality.specs.Signature.{in_signature}
use Rattle.ad_numbered.specs.Numbered.{entities_of}
use Rattle.ad_ontology_atoms.specs.OntologyAtoms.{IsShapeOf}
use Rattle.ad_request.specs.declared.request.Request.{Request}
use Rattle.ad_request.specs.declared.request.Request.TheVariants.{Load, Edit, Module, Genuine, Atoms, Atom, Export, Stat, Quit}
use Rattle.ad_shapes.specs.Shapes.{Shape}
use Rattle.ad_tree.specs.declared.axioms.Noted.{Noted}
use Rattle.ad_entity.specs.declared.entities.Entity.{Entity}
use Rattle.ad_read.specs.Texts.{IsSeed, IsSingle}
use Rattle.ad_syntax_laws.specs.OntologyLogic.{seed_test}
use Rattle.ad_syntax_laws.specs.OntologyModule.{logical}
use Rattle.ad_syntax_laws.specs.ModuleDocument.{IsModuleDocumentOf}
use Rattle.ad_write.specs.Canonical.{canon_document}

-- the body is the text of the document of the ontology's module of this kind for the seed, a test on entities
pub record IsModuleText (kind : Kind) (seed : Entity → Bool) (ontology : List Noted) (body : List ℕ) : Type 0 where
  pub axioms : List Noted
  pub holds : IsModuleDocumentOf kind seed ontology axioms
  pub document : body ≡ canon_document axioms

-- the same for entities that are listed
abbrev pub IsModuleDocument : Kind → List Entity → List Noted → List ℕ → Type 0
IsModuleDocument kind seed ontology body = IsModuleText kind (seed_test seed) ontology body

-- the same for the seed that a payload spells, whose nesting is within the limit
pub record IsSpelledModule (kind : Kind) (depth : ℕ) (payload : List ℕ) (ontology : List Noted) (body : List ℕ) : Type 0 where
  pub seed : List Entity
  pub spelled : IsSeed depth payload seed
  pub is : IsModuleDocument kind seed ontology body

-- the same for the signature of the axiom that a payload spells
pub record IsSpelledGenuine (kind : Kind) (depth : ℕ) (payload : List ℕ) (ontology : List Noted) (body : List ℕ) : Type 0 where
  pub noted : Noted
  pub spelled : IsSingle depth payload noted
  pub is : IsModuleText kind (in_signature noted.axiom) ontology body

-- the body lists the ontology's atoms of this kind
pub record IsAtomsBody (kind : Kind) (ontology : List Noted) (body : List ℕ) : Type 0 where
  pub shape : Shape
  pub is : IsShapeOf kind ontology shape
  pub text : body ≡ atoms_text shape

-- whether an axiom with this atom, if it is in one, is in the atom of this number
abbrev pub is_of_atom : ℕ → Option ℕ → Bool
is_of_atom atom None = false
is_of_atom atom (Some other) = other == atom

-- the axioms of an atom, in the ontology's order
abbrev pub axioms_of_atom : Shape → ℕ → List Noted → List Noted
axioms_of_atom shape atom ontology = map (λ p. p.0) (filter (λ p. is_of_atom atom p.1) (zip (logical ontology) shape.atoms))

-- so many atoms of this kind the ontology has
pub record HasAtoms (kind : Kind) (ontology : List Noted) (count : ℕ) : Type 0 where
  pub shape : Shape
  pub is : IsShapeOf kind ontology shape
  pub counted : count ≡ length shape.sizes

-- the body is the document of the axioms of the ontology's atom of this number, which there is
pub record IsAtomBody (kind : Kind) (atom : ℕ) (ontology : List Noted) (body : List ℕ) : Type 0 where
  pub shape : Shape
  pub is : IsShapeOf kind ontology shape
  pub within : atom < length shape.sizes
  pub document : body ≡ canon_document (axioms_of_atom shape atom ontology)

-- how many carried axioms there are: all but the logical ones
abbrev pub carried_count : List Noted → ℕ
carried_count ontology = length ontology - length (logical ontology)

-- the counts of an ontology, with so many tautologies and atoms
abbrev pub stat_text : List Noted → ℕ → ℕ → ℕ → ℕ → List ℕ
stat_text ontology tautologies bottom top star =
    line_of (codes "axioms" ∷ decimal (length (logical ontology)) ∷ codes "carried" ∷ decimal (carried_count ontology)
    ∷ codes "entities" ∷ decimal (length (entities_of (logical ontology))) ∷ codes "bytes" ∷ decimal (length (canon_document ontology)) ∷ [])
    ++ line_of (codes "tautologies" ∷ decimal tautologies ∷ [])
    ++ line_of (codes "atoms" ∷ codes "bottom" ∷ decimal bottom ∷ codes "top" ∷ decimal top ∷ codes "star" ∷ decimal star ∷ [])

-- the body tells the ontology's counts: of its axioms, logical and carried, of the entities in signatures, of the bytes of
-- its document, of its tautologies, and of its atoms of each kind
pub record IsStatBody (ontology : List Noted) (body : List ℕ) : Type 0 where
  pub shape : Kind → Shape
  pub are : (kind : Kind) → IsShapeOf kind ontology (shape kind)
  pub text : body ≡ stat_text ontology (shape kinds.Bottom).tautologies (length (shape kinds.Bottom).sizes) (length (shape kinds.Top).sizes) (length (shape kinds.Star).sizes)

-- The body that answers a request, with its payload, on an ontology. That of an edit isn't a query, and the end of a
-- session has none.
abbrev pub IsBody : ℕ → Request → List ℕ → List Noted → List ℕ → Type 0
IsBody depth (Load n) payload ontology body = ⊥
IsBody depth (Edit n expected) payload ontology body = ⊥
IsBody depth (Module kind n) payload ontology body = IsSpelledModule kind depth payload ontology body
IsBody depth (Genuine kind n) payload ontology body = IsSpelledGenuine kind depth payload ontology body
IsBody depth (Atoms kind) payload ontology body = IsAtomsBody kind ontology body
IsBody depth (Atom kind n) payload ontology body = IsAtomBody kind n ontology body
IsBody depth Export payload ontology body = body ≡ canon_document ontology
IsBody depth Stat payload ontology body = IsStatBody ontology body
IsBody depth Quit payload ontology body = ⊥
