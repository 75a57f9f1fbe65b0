-- Logical axioms are no carried ones.
use Rattle.std.proofs.Common.{◌≡◌, Bool, true, false, IsTrue, IsFalse, refl}
use Rattle.ad_entity.specs.declared.entities.Entity.{Entity}
use Rattle.ad_syntax_laws.specs.ModuleDocument.{goes_with}
use Rattle.ad_tree.specs.Logical.{is_logical}
use Rattle.ad_tree.specs.declared.axioms.Axiom.{Axiom}
use Rattle.ad_tree.specs.declared.axioms.Axiom.TheVariants as axioms
use Rattle.ad_tree.specs.declared.notes.Subject.TheVariants as subjects

-- a logical axiom goes with no entities
pub goes_logical : (entities : Entity → Bool) (a : Axiom) → IsTrue (is_logical a) → IsFalse (goes_with entities a)
goes_logical entities (axioms.Declaration declared) h = let z : false ≡ true = h in cc
goes_logical entities (axioms.AnnotationAssertion property (subjects.Iri iri) value) h = let z : false ≡ true = h in cc
goes_logical entities (axioms.AnnotationAssertion property (subjects.Anonymous label) value) h = refl
goes_logical entities _ h = refl
