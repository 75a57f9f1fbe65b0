-- The document of a module: the module's axioms together with the carried axioms that speak of its entities, in the
-- ontology's order. Those are the declarations of the entities, and the annotation assertions on their IRIs.
use Rattle.std.specs.Prelude.{◌≡◌, ℕ, Bool, false, ◌||◌, List}
use Rattle.std.specs.List.{filter, list_any}
use Rattle.ad_base.specs.declared.limits.Kind.{Kind}
use Rattle.ad_entity.specs.Entities.{entity, all_kinds}
use Rattle.ad_tree.specs.Same.{same_axiom}
use Rattle.ad_locality.specs.Signature.{in_signature}
use Rattle.ad_tree.specs.declared.axioms.Axiom.{Axiom}
use Rattle.ad_tree.specs.declared.axioms.Axiom.TheVariants as axioms
use Rattle.ad_tree.specs.declared.axioms.Noted.{Noted}
use Rattle.ad_entity.specs.declared.entities.Entity.{Entity}
use Rattle.ad_tree.specs.declared.notes.Subject.TheVariants as subjects
use Rattle.ad_syntax_laws.specs.OntologyModule.{IsModuleOf}

-- the entities of the seed, and those in the signatures of these axioms
abbrev pub entities_about : (Entity → Bool) → List Noted → Entity → Bool
entities_about seed M e = seed e || list_any (λ a. in_signature a.axiom e) M

-- whether one of these entities, of whatever kind, has this IRI
abbrev pub is_iri_of_one : (Entity → Bool) → List ℕ → Bool
is_iri_of_one entities iri = list_any (λ kind. entities (entity kind iri)) all_kinds

-- Whether a carried axiom goes with these entities: it declares one, or it is an annotation assertion on the IRI of
-- one. One on an anonymous individual goes with none, nor do the axioms on annotation properties.
abbrev pub goes_with : (Entity → Bool) → Axiom → Bool
goes_with entities (axioms.Declaration declared) = entities declared
goes_with entities (axioms.AnnotationAssertion property (subjects.Iri iri) value) = is_iri_of_one entities iri
goes_with entities _ = false

-- whether an axiom stands in this list
abbrev pub stands_in : List Noted → Noted → Bool
stands_in M a = list_any (same_axiom a) M

-- the axioms of the ontology O that are in M, or go with the entities of the seed and of M
abbrev pub document_with : (Entity → Bool) → List Noted → List Noted → List Noted
document_with seed M O = filter (λ a. stands_in M a || goes_with (entities_about seed M) a.axiom) O

-- D is the document of the module of this kind of the ontology O for the seed, a test on entities
abbrev pub IsModuleDocumentOf : Kind → (Entity → Bool) → List Noted → List Noted → Type 0
IsModuleDocumentOf kind seed O D = (M : List Noted) × IsModuleOf kind seed O M × (D ≡ document_with seed M O)
