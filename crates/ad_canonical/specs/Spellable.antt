-- The trees that can be written, and why another one can't: a name, label or tag with a character that ends it, a
-- text that isn't UTF-8, a number of more than 32 bits, and a list without a member where one is wanted.
use Rattle.std.specs.Prelude.{ℕ, ◌<◌, ◌≤◌, List, [], ◌∷◌, length, IfSome}
use Rattle.std.specs.List.{AllPass, AllByRecursion}
use Rattle.std.specs.Str.{IsUtf8}
use Rattle.ad_lex.specs.Characters.{is_word, is_iri}
use Rattle.ad_entity.specs.declared.entities.Entity.{Entity}
use Rattle.ad_tree.specs.declared.names.ObjProp.{ObjProp}
use Rattle.ad_tree.specs.declared.names.ObjProp.TheVariants as props
use Rattle.ad_tree.specs.declared.names.Individual.{Individual}
use Rattle.ad_tree.specs.declared.names.Individual.TheVariants as individuals
use Rattle.ad_tree.specs.declared.literals.Literal.{Literal}
use Rattle.ad_tree.specs.declared.literals.Literal.TheVariants as literals
use Rattle.ad_tree.specs.declared.literals.Facet.{Facet}
use Rattle.ad_tree.specs.declared.ranges.Range.{Range}
use Rattle.ad_tree.specs.declared.ranges.Range.TheOpen.{Range-F}
use Rattle.ad_tree.specs.declared.ranges.Range.TheFolds.{rec-Range}
use Rattle.ad_tree.specs.declared.classes.Class.{Class}
use Rattle.ad_tree.specs.declared.classes.Class.TheOpen.{Class-F}
use Rattle.ad_tree.specs.declared.classes.Class.TheFolds.{rec-Class}
use Rattle.ad_tree.specs.declared.notes.Subject.{Subject}
use Rattle.ad_tree.specs.declared.notes.Subject.TheVariants as subjects
use Rattle.ad_tree.specs.declared.notes.Value.{Value}
use Rattle.ad_tree.specs.declared.notes.Value.TheVariants as values
use Rattle.ad_tree.specs.declared.notes.Annotation.{Annotation}
use Rattle.ad_tree.specs.declared.notes.Annotation.TheOpen.{Annotation-F}
use Rattle.ad_tree.specs.declared.notes.Annotation.TheFolds.{rec-Annotation}
use Rattle.ad_tree.specs.declared.axioms.Axiom.{Axiom}
use Rattle.ad_tree.specs.declared.axioms.Axiom.TheVariants as axioms
use Rattle.ad_tree.specs.declared.axioms.Noted.{Noted}

-- an IRI that may stand between < and >: no blank, angle bracket or quotation mark is in it
pub record SpellableIri (iri : List ℕ) : Type 0 where
  pub each : AllPass is_iri iri
  pub utf8 : IsUtf8 iri

-- the label of an anonymous individual, or a language tag: one or more word characters
pub record SpellableWord (word : List ℕ) : Type 0 where
  pub some : 0 < length word
  pub each : AllPass is_word word
  pub utf8 : IsUtf8 word

-- a number of a cardinality
abbrev pub SpellableNumber : ℕ → Type 0
SpellableNumber n = n ≤ 4294967295

-- there is a member, and it holds of each
abbrev pub EachOfSome : {X : Type 0} → (X → Type 0) → List X → Type 0
EachOfSome P [] = ⊥
EachOfSome P (x ∷ xs) = P x × AllByRecursion P xs

abbrev pub SpellableLiteral : Literal → Type 0
SpellableLiteral (literals.Plain text) = IsUtf8 text
SpellableLiteral (literals.Lang text tag) = IsUtf8 text × SpellableWord tag
SpellableLiteral (literals.Typed text datatype) = IsUtf8 text × SpellableIri datatype

abbrev pub SpellableProperty : ObjProp → Type 0
SpellableProperty (props.Named name) = SpellableIri name
SpellableProperty (props.Inverse name) = SpellableIri name

abbrev pub SpellableIndividual : Individual → Type 0
SpellableIndividual (individuals.Named name) = SpellableIri name
SpellableIndividual (individuals.Anonymous label) = SpellableWord label

abbrev pub SpellableFacet : Facet → Type 0
SpellableFacet f = SpellableIri f.facet × SpellableLiteral f.value

abbrev pub SpellableSubject : Subject → Type 0
SpellableSubject (subjects.Iri name) = SpellableIri name
SpellableSubject (subjects.Anonymous label) = SpellableWord label

abbrev pub SpellableValue : Value → Type 0
SpellableValue (values.Iri name) = SpellableIri name
SpellableValue (values.Anonymous label) = SpellableWord label
SpellableValue (values.Literal literal) = SpellableLiteral literal

abbrev pub SpellableEntity : Entity → Type 0
SpellableEntity e = SpellableIri e.name

-- one layer of a data range
abbrev pub range_step : (X : Type 0) → (X → Range) → (X → Type 0) → Range-F X → Type 0
range_step X v spellable (Range-F.Named datatype) = SpellableIri datatype
range_step X v spellable (Range-F.And operands) = EachOfSome spellable operands
range_step X v spellable (Range-F.Or operands) = EachOfSome spellable operands
range_step X v spellable (Range-F.Not operand) = spellable operand
range_step X v spellable (Range-F.OneOf values) = EachOfSome SpellableLiteral values
range_step X v spellable (Range-F.Restriction datatype facets) = SpellableIri datatype × EachOfSome SpellableFacet facets

unfoldable pub SpellableRange : Range → Type 0
SpellableRange = rec-Range (Type 0) range_step

-- one layer of a class expression
abbrev pub class_step : (X : Type 0) → (X → Class) → (X → Type 0) → Class-F X → Type 0
class_step X v spellable (Class-F.Named class) = SpellableIri class
class_step X v spellable (Class-F.And operands) = EachOfSome spellable operands
class_step X v spellable (Class-F.Or operands) = EachOfSome spellable operands
class_step X v spellable (Class-F.Not operand) = spellable operand
class_step X v spellable (Class-F.OneOf members) = EachOfSome SpellableIndividual members
class_step X v spellable (Class-F.ObjSome property filler) = SpellableProperty property × spellable filler
class_step X v spellable (Class-F.ObjAll property filler) = SpellableProperty property × spellable filler
class_step X v spellable (Class-F.ObjValue property individual) = SpellableProperty property × SpellableIndividual individual
class_step X v spellable (Class-F.ObjSelf property) = SpellableProperty property
class_step X v spellable (Class-F.ObjMin number property filler) = SpellableNumber number × SpellableProperty property × IfSome filler spellable
class_step X v spellable (Class-F.ObjMax number property filler) = SpellableNumber number × SpellableProperty property × IfSome filler spellable
class_step X v spellable (Class-F.ObjExact number property filler) = SpellableNumber number × SpellableProperty property × IfSome filler spellable
class_step X v spellable (Class-F.DataSome property filler) = SpellableIri property × SpellableRange filler
class_step X v spellable (Class-F.DataAll property filler) = SpellableIri property × SpellableRange filler
class_step X v spellable (Class-F.DataValue property value) = SpellableIri property × SpellableLiteral value
class_step X v spellable (Class-F.DataMin number property filler) = SpellableNumber number × SpellableIri property × IfSome filler SpellableRange
class_step X v spellable (Class-F.DataMax number property filler) = SpellableNumber number × SpellableIri property × IfSome filler SpellableRange
class_step X v spellable (Class-F.DataExact number property filler) = SpellableNumber number × SpellableIri property × IfSome filler SpellableRange

unfoldable pub SpellableClass : Class → Type 0
SpellableClass = rec-Class (Type 0) class_step

-- one annotation, with its own annotations
abbrev pub annotation_step : (X : Type 0) → (X → Annotation) → (X → Type 0) → Annotation-F X → Type 0
annotation_step X v spellable a = AllByRecursion spellable a.notes × SpellableIri a.property × SpellableValue a.value

unfoldable pub SpellableAnnotation : Annotation → Type 0
SpellableAnnotation = rec-Annotation (Type 0) annotation_step

abbrev pub SpellableAxiom : Axiom → Type 0
SpellableAxiom (axioms.SubClassOf sub super) = SpellableClass sub × SpellableClass super
SpellableAxiom (axioms.EquivalentClasses classes) = EachOfSome SpellableClass classes
SpellableAxiom (axioms.DisjointClasses classes) = EachOfSome SpellableClass classes
SpellableAxiom (axioms.DisjointUnion class parts) = SpellableIri class × EachOfSome SpellableClass parts
SpellableAxiom (axioms.SubObjectPropertyOf sub super) = SpellableProperty sub × SpellableProperty super
SpellableAxiom (axioms.SubObjectPropertyChainOf chain super) = EachOfSome SpellableProperty chain × SpellableProperty super
SpellableAxiom (axioms.EquivalentObjectProperties properties) = EachOfSome SpellableProperty properties
SpellableAxiom (axioms.DisjointObjectProperties properties) = EachOfSome SpellableProperty properties
SpellableAxiom (axioms.InverseObjectProperties first second) = SpellableProperty first × SpellableProperty second
SpellableAxiom (axioms.ObjectPropertyDomain property class) = SpellableProperty property × SpellableClass class
SpellableAxiom (axioms.ObjectPropertyRange property class) = SpellableProperty property × SpellableClass class
SpellableAxiom (axioms.FunctionalObjectProperty property) = SpellableProperty property
SpellableAxiom (axioms.InverseFunctionalObjectProperty property) = SpellableProperty property
SpellableAxiom (axioms.ReflexiveObjectProperty property) = SpellableProperty property
SpellableAxiom (axioms.IrreflexiveObjectProperty property) = SpellableProperty property
SpellableAxiom (axioms.SymmetricObjectProperty property) = SpellableProperty property
SpellableAxiom (axioms.AsymmetricObjectProperty property) = SpellableProperty property
SpellableAxiom (axioms.TransitiveObjectProperty property) = SpellableProperty property
SpellableAxiom (axioms.SubDataPropertyOf sub super) = SpellableIri sub × SpellableIri super
SpellableAxiom (axioms.EquivalentDataProperties properties) = EachOfSome SpellableIri properties
SpellableAxiom (axioms.DisjointDataProperties properties) = EachOfSome SpellableIri properties
SpellableAxiom (axioms.DataPropertyDomain property class) = SpellableIri property × SpellableClass class
SpellableAxiom (axioms.DataPropertyRange property range) = SpellableIri property × SpellableRange range
SpellableAxiom (axioms.FunctionalDataProperty property) = SpellableIri property
SpellableAxiom (axioms.DatatypeDefinition datatype range) = SpellableIri datatype × SpellableRange range
SpellableAxiom (axioms.HasKey class objects values) = SpellableClass class × AllByRecursion SpellableProperty objects × AllByRecursion SpellableIri values
SpellableAxiom (axioms.SameIndividual individuals) = EachOfSome SpellableIndividual individuals
SpellableAxiom (axioms.DifferentIndividuals individuals) = EachOfSome SpellableIndividual individuals
SpellableAxiom (axioms.ClassAssertion class individual) = SpellableClass class × SpellableIndividual individual
SpellableAxiom (axioms.ObjectPropertyAssertion property source target) = SpellableProperty property × SpellableIndividual source × SpellableIndividual target
SpellableAxiom (axioms.NegativeObjectPropertyAssertion property source target) = SpellableProperty property × SpellableIndividual source × SpellableIndividual target
SpellableAxiom (axioms.DataPropertyAssertion property source target) = SpellableIri property × SpellableIndividual source × SpellableLiteral target
SpellableAxiom (axioms.NegativeDataPropertyAssertion property source target) = SpellableIri property × SpellableIndividual source × SpellableLiteral target
SpellableAxiom (axioms.Declaration declared) = SpellableEntity declared
SpellableAxiom (axioms.AnnotationAssertion property subject value) = SpellableIri property × SpellableSubject subject × SpellableValue value
SpellableAxiom (axioms.SubAnnotationPropertyOf sub super) = SpellableIri sub × SpellableIri super
SpellableAxiom (axioms.AnnotationPropertyDomain property domain) = SpellableIri property × SpellableIri domain
SpellableAxiom (axioms.AnnotationPropertyRange property range) = SpellableIri property × SpellableIri range

-- an axiom with its annotations
abbrev pub IsSpellable : Noted → Type 0
IsSpellable noted = AllByRecursion SpellableAnnotation noted.notes × SpellableAxiom noted.axiom
