-- The canonical text of the trees: the functional-style syntax with IRIs in full, one space between arguments and
-- none elsewhere, annotations first, and every axiom on a line of its own. Each row below is a row of the
-- grammar of the OWL 2 Structural Specification, Second Edition.
use Rattle.std.specs.Prelude.{ℕ, ◌==◌, ◌||◌, if◌then◌else◌, List, [], ◌∷◌, ◌++◌, Option, map, codes, decimal}
use Rattle.std.specs.List.{flat_map, join_with_byte}
use Rattle.std.specs.Option.{option_map, option_to_list}
use Rattle.ad_write.specs.Keywords as kw
use Rattle.ad_entity.specs.declared.entities.EntityKind.{EntityKind}
use Rattle.ad_entity.specs.declared.entities.EntityKind.TheVariants as kinds
use Rattle.ad_entity.specs.declared.entities.Entity.{Entity}
use Rattle.ad_tree.specs.declared.names.ObjProp.{ObjProp}
use Rattle.ad_tree.specs.declared.names.ObjProp.TheVariants as props
use Rattle.ad_tree.specs.declared.names.Individual.{Individual}
use Rattle.ad_tree.specs.declared.names.Individual.TheVariants as individuals
use Rattle.ad_tree.specs.declared.literals.Literal.{Literal}
use Rattle.ad_tree.specs.declared.literals.Literal.TheVariants as literals
use Rattle.ad_tree.specs.declared.literals.Facet.{Facet}
use Rattle.ad_tree.specs.declared.ranges.Range.{Range}
use Rattle.ad_tree.specs.declared.ranges.Range.TheOpen.{Range-F}
use Rattle.ad_tree.specs.declared.ranges.Range.TheFolds.{fold-Range}
use Rattle.ad_tree.specs.declared.classes.Class.{Class}
use Rattle.ad_tree.specs.declared.classes.Class.TheOpen.{Class-F}
use Rattle.ad_tree.specs.declared.classes.Class.TheFolds.{fold-Class}
use Rattle.ad_tree.specs.declared.notes.Subject.{Subject}
use Rattle.ad_tree.specs.declared.notes.Subject.TheVariants as subjects
use Rattle.ad_tree.specs.declared.notes.Value.{Value}
use Rattle.ad_tree.specs.declared.notes.Value.TheVariants as values
use Rattle.ad_tree.specs.declared.notes.Annotation.{Annotation}
use Rattle.ad_tree.specs.declared.notes.Annotation.TheOpen.{Annotation-F}
use Rattle.ad_tree.specs.declared.notes.Annotation.TheFolds.{fold-Annotation}
use Rattle.ad_tree.specs.declared.axioms.Axiom.{Axiom}
use Rattle.ad_tree.specs.declared.axioms.Axiom.TheVariants as axioms
use Rattle.ad_tree.specs.declared.axioms.Noted.{Noted}

-- a keyword, and its arguments between parentheses with one space between them
abbrev pub compound : List ℕ → List (List ℕ) → List ℕ
compound word arguments = word ++ (codes "(" ++ (join_with_byte 32 arguments ++ codes ")"))

-- a list between parentheses, as the two of a key
abbrev pub group : List (List ℕ) → List ℕ
group members = compound [] members

-- an IRI in full
abbrev pub canon_iri : List ℕ → List ℕ
canon_iri iri = codes "<" ++ (iri ++ codes ">")

-- an anonymous individual
abbrev pub canon_anonymous : List ℕ → List ℕ
canon_anonymous label = codes "_:" ++ label

-- In a quoted text a quotation mark (34) and a backslash (92) stand behind a backslash, and all else as it is.
abbrev pub escape : ℕ → List ℕ
escape byte = if byte == 34 || byte == 92 then 92 ∷ byte ∷ [] else byte ∷ []

abbrev pub escaped : List ℕ → List ℕ
escaped text = flat_map escape text

abbrev pub quoted : List ℕ → List ℕ
quoted text = 34 ∷ (escaped text ++ 34 ∷ [])

abbrev pub canon_literal : Literal → List ℕ
canon_literal (literals.Plain text) = quoted text
canon_literal (literals.Lang text tag) = quoted text ++ (codes "@" ++ tag)
canon_literal (literals.Typed text datatype) = quoted text ++ (codes "^^" ++ canon_iri datatype)

abbrev pub canon_property : ObjProp → List ℕ
canon_property (props.Named p) = canon_iri p
canon_property (props.Inverse p) = compound kw.ObjectInverseOf (canon_iri p ∷ [])

abbrev pub canon_individual : Individual → List ℕ
canon_individual (individuals.Named i) = canon_iri i
canon_individual (individuals.Anonymous label) = canon_anonymous label

-- a facet and its value
abbrev pub canon_facet : Facet → List ℕ
canon_facet f = canon_iri f.facet ++ 32 ∷ canon_literal f.value

-- one layer of a data range, with the texts of its parts in their places
abbrev pub range_step : Range-F (List ℕ) → List ℕ
range_step (Range-F.Named datatype) = canon_iri datatype
range_step (Range-F.And operands) = compound kw.DataIntersectionOf operands
range_step (Range-F.Or operands) = compound kw.DataUnionOf operands
range_step (Range-F.Not operand) = compound kw.DataComplementOf (operand ∷ [])
range_step (Range-F.OneOf values) = compound kw.DataOneOf (map canon_literal values)
range_step (Range-F.Restriction datatype facets) = compound kw.DatatypeRestriction (canon_iri datatype ∷ map canon_facet facets)

unfoldable pub canon_range : Range → List ℕ
canon_range = fold-Range (List ℕ) range_step

-- an optional data range as an argument that may be absent
abbrev pub canon_optional : Option Range → List (List ℕ)
canon_optional range = option_to_list (option_map canon_range range)

-- one layer of a class expression, with the texts of its parts in their places
abbrev pub class_step : Class-F (List ℕ) → List ℕ
class_step (Class-F.Named class) = canon_iri class
class_step (Class-F.And operands) = compound kw.ObjectIntersectionOf operands
class_step (Class-F.Or operands) = compound kw.ObjectUnionOf operands
class_step (Class-F.Not operand) = compound kw.ObjectComplementOf (operand ∷ [])
class_step (Class-F.OneOf members) = compound kw.ObjectOneOf (map canon_individual members)
class_step (Class-F.ObjSome property filler) = compound kw.ObjectSomeValuesFrom (canon_property property ∷ filler ∷ [])
class_step (Class-F.ObjAll property filler) = compound kw.ObjectAllValuesFrom (canon_property property ∷ filler ∷ [])
class_step (Class-F.ObjValue property individual) = compound kw.ObjectHasValue (canon_property property ∷ canon_individual individual ∷ [])
class_step (Class-F.ObjSelf property) = compound kw.ObjectHasSelf (canon_property property ∷ [])
class_step (Class-F.ObjMin number property filler) = compound kw.ObjectMinCardinality (decimal number ∷ canon_property property ∷ option_to_list filler)
class_step (Class-F.ObjMax number property filler) = compound kw.ObjectMaxCardinality (decimal number ∷ canon_property property ∷ option_to_list filler)
class_step (Class-F.ObjExact number property filler) = compound kw.ObjectExactCardinality (decimal number ∷ canon_property property ∷ option_to_list filler)
class_step (Class-F.DataSome property filler) = compound kw.DataSomeValuesFrom (canon_iri property ∷ canon_range filler ∷ [])
class_step (Class-F.DataAll property filler) = compound kw.DataAllValuesFrom (canon_iri property ∷ canon_range filler ∷ [])
class_step (Class-F.DataValue property value) = compound kw.DataHasValue (canon_iri property ∷ canon_literal value ∷ [])
class_step (Class-F.DataMin number property filler) = compound kw.DataMinCardinality (decimal number ∷ canon_iri property ∷ canon_optional filler)
class_step (Class-F.DataMax number property filler) = compound kw.DataMaxCardinality (decimal number ∷ canon_iri property ∷ canon_optional filler)
class_step (Class-F.DataExact number property filler) = compound kw.DataExactCardinality (decimal number ∷ canon_iri property ∷ canon_optional filler)

unfoldable pub canon_class : Class → List ℕ
canon_class = fold-Class (List ℕ) class_step

abbrev pub canon_subject : Subject → List ℕ
canon_subject (subjects.Iri iri) = canon_iri iri
canon_subject (subjects.Anonymous label) = canon_anonymous label

abbrev pub canon_value : Value → List ℕ
canon_value (values.Iri iri) = canon_iri iri
canon_value (values.Anonymous label) = canon_anonymous label
canon_value (values.Literal literal) = canon_literal literal

-- one annotation, with the texts of its own annotations in their places
abbrev pub annotation_step : Annotation-F (List ℕ) → List ℕ
annotation_step a = compound kw.Annotation (a.notes ++ canon_iri a.property ∷ canon_value a.value ∷ [])

unfoldable pub canon_annotation : Annotation → List ℕ
canon_annotation = fold-Annotation (List ℕ) annotation_step

abbrev pub entity_kind_word : EntityKind → List ℕ
entity_kind_word kinds.Class = kw.Class
entity_kind_word kinds.Datatype = kw.Datatype
entity_kind_word kinds.ObjectProperty = kw.ObjectProperty
entity_kind_word kinds.DataProperty = kw.DataProperty
entity_kind_word kinds.AnnotationProperty = kw.AnnotationProperty
entity_kind_word kinds.NamedIndividual = kw.NamedIndividual

abbrev pub canon_entity : Entity → List ℕ
canon_entity e = compound (entity_kind_word e.kind) (canon_iri e.name ∷ [])

-- an axiom whose annotations have these texts
abbrev pub canon_axiom : List (List ℕ) → Axiom → List ℕ
canon_axiom notes (axioms.SubClassOf sub super) = compound kw.SubClassOf (notes ++ canon_class sub ∷ canon_class super ∷ [])
canon_axiom notes (axioms.EquivalentClasses classes) = compound kw.EquivalentClasses (notes ++ map canon_class classes)
canon_axiom notes (axioms.DisjointClasses classes) = compound kw.DisjointClasses (notes ++ map canon_class classes)
canon_axiom notes (axioms.DisjointUnion class parts) = compound kw.DisjointUnion (notes ++ canon_iri class ∷ map canon_class parts)
canon_axiom notes (axioms.SubObjectPropertyOf sub super) = compound kw.SubObjectPropertyOf (notes ++ canon_property sub ∷ canon_property super ∷ [])
canon_axiom notes (axioms.SubObjectPropertyChainOf chain super) = compound kw.SubObjectPropertyOf (notes ++ compound kw.ObjectPropertyChain (map canon_property chain) ∷ canon_property super ∷ [])
canon_axiom notes (axioms.EquivalentObjectProperties properties) = compound kw.EquivalentObjectProperties (notes ++ map canon_property properties)
canon_axiom notes (axioms.DisjointObjectProperties properties) = compound kw.DisjointObjectProperties (notes ++ map canon_property properties)
canon_axiom notes (axioms.InverseObjectProperties first second) = compound kw.InverseObjectProperties (notes ++ canon_property first ∷ canon_property second ∷ [])
canon_axiom notes (axioms.ObjectPropertyDomain property class) = compound kw.ObjectPropertyDomain (notes ++ canon_property property ∷ canon_class class ∷ [])
canon_axiom notes (axioms.ObjectPropertyRange property class) = compound kw.ObjectPropertyRange (notes ++ canon_property property ∷ canon_class class ∷ [])
canon_axiom notes (axioms.FunctionalObjectProperty property) = compound kw.FunctionalObjectProperty (notes ++ canon_property property ∷ [])
canon_axiom notes (axioms.InverseFunctionalObjectProperty property) = compound kw.InverseFunctionalObjectProperty (notes ++ canon_property property ∷ [])
canon_axiom notes (axioms.ReflexiveObjectProperty property) = compound kw.ReflexiveObjectProperty (notes ++ canon_property property ∷ [])
canon_axiom notes (axioms.IrreflexiveObjectProperty property) = compound kw.IrreflexiveObjectProperty (notes ++ canon_property property ∷ [])
canon_axiom notes (axioms.SymmetricObjectProperty property) = compound kw.SymmetricObjectProperty (notes ++ canon_property property ∷ [])
canon_axiom notes (axioms.AsymmetricObjectProperty property) = compound kw.AsymmetricObjectProperty (notes ++ canon_property property ∷ [])
canon_axiom notes (axioms.TransitiveObjectProperty property) = compound kw.TransitiveObjectProperty (notes ++ canon_property property ∷ [])
canon_axiom notes (axioms.SubDataPropertyOf sub super) = compound kw.SubDataPropertyOf (notes ++ canon_iri sub ∷ canon_iri super ∷ [])
canon_axiom notes (axioms.EquivalentDataProperties properties) = compound kw.EquivalentDataProperties (notes ++ map canon_iri properties)
canon_axiom notes (axioms.DisjointDataProperties properties) = compound kw.DisjointDataProperties (notes ++ map canon_iri properties)
canon_axiom notes (axioms.DataPropertyDomain property class) = compound kw.DataPropertyDomain (notes ++ canon_iri property ∷ canon_class class ∷ [])
canon_axiom notes (axioms.DataPropertyRange property range) = compound kw.DataPropertyRange (notes ++ canon_iri property ∷ canon_range range ∷ [])
canon_axiom notes (axioms.FunctionalDataProperty property) = compound kw.FunctionalDataProperty (notes ++ canon_iri property ∷ [])
canon_axiom notes (axioms.DatatypeDefinition datatype range) = compound kw.DatatypeDefinition (notes ++ canon_iri datatype ∷ canon_range range ∷ [])
canon_axiom notes (axioms.HasKey class objects values) = compound kw.HasKey (notes ++ canon_class class ∷ group (map canon_property objects) ∷ group (map canon_iri values) ∷ [])
canon_axiom notes (axioms.SameIndividual individuals) = compound kw.SameIndividual (notes ++ map canon_individual individuals)
canon_axiom notes (axioms.DifferentIndividuals individuals) = compound kw.DifferentIndividuals (notes ++ map canon_individual individuals)
canon_axiom notes (axioms.ClassAssertion class individual) = compound kw.ClassAssertion (notes ++ canon_class class ∷ canon_individual individual ∷ [])
canon_axiom notes (axioms.ObjectPropertyAssertion property source target) = compound kw.ObjectPropertyAssertion (notes ++ canon_property property ∷ canon_individual source ∷ canon_individual target ∷ [])
canon_axiom notes (axioms.NegativeObjectPropertyAssertion property source target) = compound kw.NegativeObjectPropertyAssertion (notes ++ canon_property property ∷ canon_individual source ∷ canon_individual target ∷ [])
canon_axiom notes (axioms.DataPropertyAssertion property source target) = compound kw.DataPropertyAssertion (notes ++ canon_iri property ∷ canon_individual source ∷ canon_literal target ∷ [])
canon_axiom notes (axioms.NegativeDataPropertyAssertion property source target) = compound kw.NegativeDataPropertyAssertion (notes ++ canon_iri property ∷ canon_individual source ∷ canon_literal target ∷ [])
canon_axiom notes (axioms.Declaration declared) = compound kw.Declaration (notes ++ canon_entity declared ∷ [])
canon_axiom notes (axioms.AnnotationAssertion property subject value) = compound kw.AnnotationAssertion (notes ++ canon_iri property ∷ canon_subject subject ∷ canon_value value ∷ [])
canon_axiom notes (axioms.SubAnnotationPropertyOf sub super) = compound kw.SubAnnotationPropertyOf (notes ++ canon_iri sub ∷ canon_iri super ∷ [])
canon_axiom notes (axioms.AnnotationPropertyDomain property domain) = compound kw.AnnotationPropertyDomain (notes ++ canon_iri property ∷ canon_iri domain ∷ [])
canon_axiom notes (axioms.AnnotationPropertyRange property range) = compound kw.AnnotationPropertyRange (notes ++ canon_iri property ∷ canon_iri range ∷ [])

-- an axiom with its annotations, without a line's end
unfoldable pub canon : Noted → List ℕ
canon noted = canon_axiom (map canon_annotation noted.notes) noted.axiom

-- an axiom with the line feed behind it
abbrev pub canon_line : Noted → List ℕ
canon_line noted = canon noted ++ 10 ∷ []

-- what stands before and behind the axioms of a document
abbrev pub document_head : List ℕ
document_head = kw.Ontology ++ (codes "(" ++ 10 ∷ [])

abbrev pub document_foot : List ℕ
document_foot = codes ")" ++ 10 ∷ []

-- the document of these axioms
abbrev pub canon_document : List Noted → List ℕ
canon_document axioms = document_head ++ (flat_map canon_line axioms ++ document_foot)
