-- The genuine modules and the atoms of an OWL ontology: these are the definitions that all crates cite. Genuine modules and
-- atoms are those of Del Vescovo, Parsia, Sattler and Schneider (The modular structure of an ontology: atomic
-- decomposition, IJCAI 2011).
use Rattle.std.specs.Prelude.{◌≡◌, ℕ, Bool, List, Some}
use Rattle.std.specs.List.{Contains, filter}
use Rattle.ad_base.specs.declared.limits.Kind.{Kind}
use Rattle.ad_decomposition.specs.Atoms.{atom_of}
use Rattle.ad_entity.specs.declared.entities.Entity.{Entity}
use Rattle.ad_locality.specs.Signature.{in_signature}
use Rattle.ad_tree.specs.declared.axioms.Noted.{Noted}
use Rattle.ad_shapes.specs.Shapes.{Shape, shape_of}
use Rattle.ad_syntax_laws.specs.OntologyModule.{IsModuleOf, logical}

-- G says which logical axioms are in the genuine module of one (G a b: b is in that of a): the module of the ontology for
-- the axiom's own signature
pub record AreGenuineModules (kind : Kind) (ontology : List Noted) (G : Noted → Noted → Bool) : Type 0 where
  pub genuine : (a : Noted) → Contains (logical ontology) a → IsModuleOf kind (in_signature a.axiom) ontology (filter (G a) (logical ontology))

-- this is what is seen of the ontology's atoms of this kind
abbrev pub IsShapeOf : Kind → List Noted → Shape → Type 0
IsShapeOf kind ontology shape = (G : Noted → Noted → Bool) × AreGenuineModules kind ontology G × (shape ≡ shape_of G (logical ontology))

-- the module of any seed holds an atom of its kind as a whole, or nothing of it
abbrev pub ModulesHoldWholeAtoms : Type 0
ModulesHoldWholeAtoms = (kind : Kind) (seed : Entity → Bool) (ontology M : List Noted) (G : Noted → Noted → Bool) (a b : Noted) (atom : ℕ)
    → AreGenuineModules kind ontology G → IsModuleOf kind seed ontology M → Contains (logical ontology) a → Contains (logical ontology) b
    → atom_of G (logical ontology) a ≡ Some atom → atom_of G (logical ontology) b ≡ Some atom → Contains M a → Contains M b
