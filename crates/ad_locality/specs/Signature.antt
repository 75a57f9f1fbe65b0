-- The signature of an axiom: the entities that occur in it, each of the kind of its position, but for the
-- built-in ones. The datatype of a typed literal and a named individual are among them; annotations, facets
-- with their values, and anonymous individuals are not. Lists keep the order of first occurrence and repeats.
use Rattle.std.specs.Prelude.{ℕ, Bool, cond, List, [], ◌∷◌, ◌++◌, Option, None, Some}
use Rattle.std.specs.List.{flat_map}
use Rattle.ad_entity.specs.Entities.{entity, has_entity}
use Rattle.ad_entity.specs.Builtin.{is_builtin}
use Rattle.ad_entity.specs.declared.entities.EntityKind.{EntityKind}
use Rattle.ad_entity.specs.declared.entities.EntityKind.TheVariants as kinds
use Rattle.ad_entity.specs.declared.entities.Entity.{Entity}
use Rattle.ad_tree.specs.declared.names.ObjProp.{ObjProp}
use Rattle.ad_tree.specs.declared.names.ObjProp.TheVariants as props
use Rattle.ad_tree.specs.declared.names.Individual.{Individual}
use Rattle.ad_tree.specs.declared.names.Individual.TheVariants as individuals
use Rattle.ad_tree.specs.declared.literals.Literal.{Literal}
use Rattle.ad_tree.specs.declared.literals.Literal.TheVariants as literals
use Rattle.ad_tree.specs.declared.ranges.Range.{Range}
use Rattle.ad_tree.specs.declared.ranges.Range.TheOpen.{Range-F}
use Rattle.ad_tree.specs.declared.ranges.Range.TheFolds.{fold-Range}
use Rattle.ad_tree.specs.declared.classes.Class.{Class}
use Rattle.ad_tree.specs.declared.classes.Class.TheOpen.{Class-F}
use Rattle.ad_tree.specs.declared.classes.Class.TheFolds.{fold-Class}
use Rattle.ad_tree.specs.declared.axioms.Axiom.{Axiom}
use Rattle.ad_tree.specs.declared.axioms.Axiom.TheVariants as axioms

-- a name in the position of its kind
abbrev pub named : EntityKind → List ℕ → List Entity
named kind name = cond (is_builtin (entity kind name)) [] (entity kind name ∷ [])

abbrev pub of_property : ObjProp → List Entity
of_property (props.Named p) = named kinds.ObjectProperty p
of_property (props.Inverse p) = named kinds.ObjectProperty p

abbrev pub of_individual : Individual → List Entity
of_individual (individuals.Named i) = named kinds.NamedIndividual i
of_individual (individuals.Anonymous label) = []

abbrev pub of_literal : Literal → List Entity
of_literal (literals.Plain text) = []
of_literal (literals.Lang text tag) = []
of_literal (literals.Typed text datatype) = named kinds.Datatype datatype

-- one layer of a data range, with the entities of its parts in their places
abbrev pub range_step : Range-F (List Entity) → List Entity
range_step (Range-F.Named datatype) = named kinds.Datatype datatype
range_step (Range-F.And operands) = flat_map (λ x. x) operands
range_step (Range-F.Or operands) = flat_map (λ x. x) operands
range_step (Range-F.Not operand) = operand
range_step (Range-F.OneOf values) = flat_map of_literal values
range_step (Range-F.Restriction datatype facets) = named kinds.Datatype datatype

unfoldable pub of_range : Range → List Entity
of_range = fold-Range (List Entity) range_step

-- what an optional part adds
abbrev pub of_optional : {X : Type 0} → (X → List Entity) → Option X → List Entity
of_optional f None = []
of_optional f (Some x) = f x

-- one layer of a class expression, with the entities of its parts in their places
abbrev pub class_step : Class-F (List Entity) → List Entity
class_step (Class-F.Named class) = named kinds.Class class
class_step (Class-F.And operands) = flat_map (λ x. x) operands
class_step (Class-F.Or operands) = flat_map (λ x. x) operands
class_step (Class-F.Not operand) = operand
class_step (Class-F.OneOf individuals) = flat_map of_individual individuals
class_step (Class-F.ObjSome property filler) = of_property property ++ filler
class_step (Class-F.ObjAll property filler) = of_property property ++ filler
class_step (Class-F.ObjValue property individual) = of_property property ++ of_individual individual
class_step (Class-F.ObjSelf property) = of_property property
class_step (Class-F.ObjMin number property filler) = of_property property ++ of_optional (λ x. x) filler
class_step (Class-F.ObjMax number property filler) = of_property property ++ of_optional (λ x. x) filler
class_step (Class-F.ObjExact number property filler) = of_property property ++ of_optional (λ x. x) filler
class_step (Class-F.DataSome property filler) = named kinds.DataProperty property ++ of_range filler
class_step (Class-F.DataAll property filler) = named kinds.DataProperty property ++ of_range filler
class_step (Class-F.DataValue property value) = named kinds.DataProperty property ++ of_literal value
class_step (Class-F.DataMin number property filler) = named kinds.DataProperty property ++ of_optional of_range filler
class_step (Class-F.DataMax number property filler) = named kinds.DataProperty property ++ of_optional of_range filler
class_step (Class-F.DataExact number property filler) = named kinds.DataProperty property ++ of_optional of_range filler

unfoldable pub of_class : Class → List Entity
of_class = fold-Class (List Entity) class_step

-- the entities of an axiom in the order in which they stand in it, with repeats; a carried axiom has none
abbrev pub occurrences : Axiom → List Entity
occurrences (axioms.SubClassOf sub super) = of_class sub ++ of_class super
occurrences (axioms.EquivalentClasses classes) = flat_map of_class classes
occurrences (axioms.DisjointClasses classes) = flat_map of_class classes
occurrences (axioms.DisjointUnion class parts) = named kinds.Class class ++ flat_map of_class parts
occurrences (axioms.SubObjectPropertyOf sub super) = of_property sub ++ of_property super
occurrences (axioms.SubObjectPropertyChainOf chain super) = flat_map of_property chain ++ of_property super
occurrences (axioms.EquivalentObjectProperties properties) = flat_map of_property properties
occurrences (axioms.DisjointObjectProperties properties) = flat_map of_property properties
occurrences (axioms.InverseObjectProperties first second) = of_property first ++ of_property second
occurrences (axioms.ObjectPropertyDomain property class) = of_property property ++ of_class class
occurrences (axioms.ObjectPropertyRange property class) = of_property property ++ of_class class
occurrences (axioms.FunctionalObjectProperty property) = of_property property
occurrences (axioms.InverseFunctionalObjectProperty property) = of_property property
occurrences (axioms.ReflexiveObjectProperty property) = of_property property
occurrences (axioms.IrreflexiveObjectProperty property) = of_property property
occurrences (axioms.SymmetricObjectProperty property) = of_property property
occurrences (axioms.AsymmetricObjectProperty property) = of_property property
occurrences (axioms.TransitiveObjectProperty property) = of_property property
occurrences (axioms.SubDataPropertyOf sub super) = named kinds.DataProperty sub ++ named kinds.DataProperty super
occurrences (axioms.EquivalentDataProperties properties) = flat_map (named kinds.DataProperty) properties
occurrences (axioms.DisjointDataProperties properties) = flat_map (named kinds.DataProperty) properties
occurrences (axioms.DataPropertyDomain property class) = named kinds.DataProperty property ++ of_class class
occurrences (axioms.DataPropertyRange property range) = named kinds.DataProperty property ++ of_range range
occurrences (axioms.FunctionalDataProperty property) = named kinds.DataProperty property
occurrences (axioms.DatatypeDefinition datatype range) = named kinds.Datatype datatype ++ of_range range
occurrences (axioms.HasKey class objects values) = of_class class ++ flat_map of_property objects ++ flat_map (named kinds.DataProperty) values
occurrences (axioms.SameIndividual individuals) = flat_map of_individual individuals
occurrences (axioms.DifferentIndividuals individuals) = flat_map of_individual individuals
occurrences (axioms.ClassAssertion class individual) = of_class class ++ of_individual individual
occurrences (axioms.ObjectPropertyAssertion property source target) = of_property property ++ of_individual source ++ of_individual target
occurrences (axioms.NegativeObjectPropertyAssertion property source target) = of_property property ++ of_individual source ++ of_individual target
occurrences (axioms.DataPropertyAssertion property source target) = named kinds.DataProperty property ++ of_individual source ++ of_literal target
occurrences (axioms.NegativeDataPropertyAssertion property source target) = named kinds.DataProperty property ++ of_individual source ++ of_literal target
occurrences (axioms.Declaration declared) = []
occurrences (axioms.AnnotationAssertion property subject value) = []
occurrences (axioms.SubAnnotationPropertyOf sub super) = []
occurrences (axioms.AnnotationPropertyDomain property domain) = []
occurrences (axioms.AnnotationPropertyRange property range) = []

-- whether an entity is in the signature of an axiom
abbrev pub in_signature : Axiom → Entity → Bool
in_signature a e = has_entity (occurrences a) e
