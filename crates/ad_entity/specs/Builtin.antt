-- The names that are built in (Structural Specification, sections 5.1 to 5.5), by kind.
use Rattle.std.specs.Prelude.{ℕ, Bool, false, ◌||◌, List, [], ◌∷◌, ◌++◌, nat_eq, codes}
use Rattle.std.specs.List.{list_any, starts_with}
use Rattle.ad_base.specs.Words.{same_text}
use Rattle.ad_entity.specs.declared.entities.EntityKind.{EntityKind}
use Rattle.ad_entity.specs.declared.entities.EntityKind.TheVariants as kinds
use Rattle.ad_entity.specs.declared.entities.Entity.{Entity}

-- the four namespaces of the standard
abbrev pub owl : List ℕ
owl = codes "http://www.w3.org/2002/07/owl#"

abbrev pub rdf : List ℕ
rdf = codes "http://www.w3.org/1999/02/22-rdf-syntax-ns#"

abbrev pub rdfs : List ℕ
rdfs = codes "http://www.w3.org/2000/01/rdf-schema#"

abbrev pub xsd : List ℕ
xsd = codes "http://www.w3.org/2001/XMLSchema#"

-- the IRI begins with one of them
abbrev pub is_reserved : List ℕ → Bool
is_reserved iri = list_any (λ namespace. starts_with nat_eq iri namespace) (owl ∷ rdf ∷ rdfs ∷ xsd ∷ [])

-- one name of the standard for everything, and one for nothing
abbrev pub is_one_of_two : List ℕ → List ℕ → List ℕ → Bool
is_one_of_two top bottom iri = same_text iri top || same_text iri bottom

-- whether a name is built in where one of this kind stands; no individual is
abbrev pub is_builtin_name : EntityKind → List ℕ → Bool
is_builtin_name kinds.Class iri = is_one_of_two (owl ++ codes "Thing") (owl ++ codes "Nothing") iri
is_builtin_name kinds.Datatype iri = is_reserved iri
is_builtin_name kinds.ObjectProperty iri = is_one_of_two (owl ++ codes "topObjectProperty") (owl ++ codes "bottomObjectProperty") iri
is_builtin_name kinds.DataProperty iri = is_one_of_two (owl ++ codes "topDataProperty") (owl ++ codes "bottomDataProperty") iri
is_builtin_name kinds.AnnotationProperty iri = is_reserved iri
is_builtin_name kinds.NamedIndividual iri = false

-- whether an entity is built in
abbrev pub is_builtin : Entity → Bool
is_builtin e = is_builtin_name e.kind e.name
