-- The tree of a keyword and its arguments.
use Rattle.std.specs.Prelude.{ℕ, List, [], ◌∷◌, Option, None, Some}
use Rattle.std.specs.Option.{option_map, option_zip}
use Rattle.ad_terms.specs.declared.item.StackItem.{StackItem}
use Rattle.ad_terms.specs.declared.item.StackItem.TheVariants as i
use Rattle.ad_terms.specs.declared.keyword.RangeWord.{RangeWord}
use Rattle.ad_terms.specs.declared.keyword.RangeWord.TheVariants as rangeword
use Rattle.ad_terms.specs.declared.keyword.ClassWord.{ClassWord}
use Rattle.ad_terms.specs.declared.keyword.ClassWord.TheVariants as classword
use Rattle.ad_terms.specs.declared.keyword.AxiomWord.{AxiomWord}
use Rattle.ad_terms.specs.declared.keyword.AxiomWord.TheVariants as axiomword
use Rattle.ad_terms.specs.declared.keyword.JoinWord.{JoinWord}
use Rattle.ad_terms.specs.declared.keyword.JoinWord.TheVariants as joinword
use Rattle.ad_terms.specs.declared.keyword.FillerWord.{FillerWord}
use Rattle.ad_terms.specs.declared.keyword.FillerWord.TheVariants as fillerword
use Rattle.ad_terms.specs.declared.keyword.CountWord.{CountWord}
use Rattle.ad_terms.specs.declared.keyword.CountWord.TheVariants as countword
use Rattle.ad_terms.specs.declared.keyword.SetWord.{SetWord}
use Rattle.ad_terms.specs.declared.keyword.SetWord.TheVariants as setword
use Rattle.ad_terms.specs.declared.keyword.EndWord.{EndWord}
use Rattle.ad_terms.specs.declared.keyword.EndWord.TheVariants as endword
use Rattle.ad_terms.specs.declared.keyword.TraitWord.{TraitWord}
use Rattle.ad_terms.specs.declared.keyword.TraitWord.TheVariants as traitword
use Rattle.ad_terms.specs.declared.keyword.NamesWord.{NamesWord}
use Rattle.ad_terms.specs.declared.keyword.NamesWord.TheVariants as namesword
use Rattle.ad_terms.specs.declared.keyword.FactWord.{FactWord}
use Rattle.ad_terms.specs.declared.keyword.FactWord.TheVariants as factword
use Rattle.ad_terms.specs.declared.reads_as.Lower.{Lower}
use Rattle.ad_terms.specs.declared.reads_as.Lower.TheVariants as lower
use Rattle.ad_terms.specs.Stacks.{gather}
use Rattle.ad_terms.specs.Items.{as_name, as_lower, as_entity, as_subject, as_value, as_number, as_literal, as_property, as_individual, as_range, as_class}
use Rattle.ad_terms.specs.Shapes.{top_read, behind_top, top_two, one, two, three, counted, each, first_and_each, more}
use Rattle.ad_tree.specs.declared.literals.Facet.{Facet}
use Rattle.ad_tree.specs.declared.ranges.Range.{Range}
use Rattle.ad_tree.specs.declared.ranges.Range.TheVariants as r
use Rattle.ad_tree.specs.declared.names.ObjProp.{ObjProp}
use Rattle.ad_tree.specs.declared.names.Individual.{Individual}
use Rattle.ad_tree.specs.declared.literals.Literal.{Literal}
use Rattle.ad_tree.specs.declared.axioms.Axiom.{Axiom}
use Rattle.ad_tree.specs.declared.axioms.Axiom.TheVariants as a
use Rattle.ad_tree.specs.declared.classes.Class.{Class}
use Rattle.ad_tree.specs.declared.classes.Class.TheVariants as c

-- the name of a facet, and its value
abbrev pub facet : List StackItem → Option Facet
facet items = option_map (λ p. record { facet = p.0; value = p.1 }) (top_two as_name as_literal items)

abbrev pub facets : List StackItem → Option (List Facet)
facets [] = Some []
facets (name ∷ []) = None
facets (name ∷ value ∷ items) = more (facet (name ∷ value ∷ [])) (facets items)

-- a datatype, and facets of it
abbrev pub restriction : List StackItem → Option Range
restriction items = option_map (λ p. r.Restriction p.0 p.1) (option_zip (top_read as_name items) (facets (behind_top items)))

abbrev pub joined_range : JoinWord → List Range → Range
joined_range joinword.Intersection = r.And
joined_range joinword.Union = r.Or

abbrev pub range_of : RangeWord → List StackItem → Option Range
range_of (rangeword.Join word) items = option_map (joined_range word) (each as_range items)
range_of rangeword.Complement items = option_map r.Not (one as_range items)
range_of rangeword.OneOf items = option_map r.OneOf (each as_literal items)
range_of rangeword.Restriction items = restriction items

abbrev pub joined_class : JoinWord → List Class → Class
joined_class joinword.Intersection = c.And
joined_class joinword.Union = c.Or

abbrev pub object_filler : FillerWord → ObjProp × Class → Class
object_filler fillerword.Some = λ p. c.ObjSome p.0 p.1
object_filler fillerword.All = λ p. c.ObjAll p.0 p.1

abbrev pub object_count : CountWord → ℕ × (ObjProp × Option Class) → Class
object_count countword.Min = λ p. c.ObjMin p.0 p.1.0 p.1.1
object_count countword.Max = λ p. c.ObjMax p.0 p.1.0 p.1.1
object_count countword.Exact = λ p. c.ObjExact p.0 p.1.0 p.1.1

abbrev pub data_filler : FillerWord → List ℕ × Range → Class
data_filler fillerword.Some = λ p. c.DataSome p.0 p.1
data_filler fillerword.All = λ p. c.DataAll p.0 p.1

abbrev pub data_count : CountWord → ℕ × (List ℕ × Option Range) → Class
data_count countword.Min = λ p. c.DataMin p.0 p.1.0 p.1.1
data_count countword.Max = λ p. c.DataMax p.0 p.1.0 p.1.1
data_count countword.Exact = λ p. c.DataExact p.0 p.1.0 p.1.1

abbrev pub class_of : ClassWord → List StackItem → Option Class
class_of (classword.Join word) items = option_map (joined_class word) (each as_class items)
class_of classword.Complement items = option_map c.Not (one as_class items)
class_of classword.OneOf items = option_map c.OneOf (each as_individual items)
class_of (classword.ObjectFiller word) items = option_map (object_filler word) (two as_property as_class items)
class_of classword.ObjectValue items = option_map (λ p. c.ObjValue p.0 p.1) (two as_property as_individual items)
class_of classword.ObjectSelf items = option_map c.ObjSelf (one as_property items)
class_of (classword.ObjectCount word) items = option_map (object_count word) (counted as_number as_property as_class items)
class_of (classword.DataFiller word) items = option_map (data_filler word) (two as_name as_range items)
class_of classword.DataValue items = option_map (λ p. c.DataValue p.0 p.1) (two as_name as_literal items)
class_of (classword.DataCount word) items = option_map (data_count word) (counted as_number as_name as_range items)

-- the axiom of this lower and this upper side
abbrev pub below : Lower → ObjProp → Axiom
below (lower.Property sub) super = a.SubObjectPropertyOf sub super
below (lower.Chain chain) super = a.SubObjectPropertyChainOf chain super

-- the members of a list between parentheses, and the items behind it; or none
abbrev pub list_at : {A : Type 0} → (StackItem → Option A) → List StackItem → Option (List A) × List StackItem
list_at f (i.Open ∷ items) = (each f (gather items 0).0, (gather items 0).1)
list_at f items = (None, behind_top items)

-- a list between parentheses, with nothing behind it
abbrev pub last_list : {A : Type 0} → Option (List A) × List StackItem → Option (List A)
last_list (members, []) = members
last_list (members, item ∷ items) = None

-- two lists between parentheses, with nothing behind them
abbrev pub two_lists : List StackItem → Option (List ObjProp × List (List ℕ))
two_lists items = let objects = list_at as_property items in option_zip objects.0 (last_list (list_at as_name objects.1))

-- the key of a class and two lists
abbrev pub keyed : Option Class → Option (List ObjProp × List (List ℕ)) → Option Axiom
keyed class lists = option_map (λ p. a.HasKey p.0 p.1.0 p.1.1) (option_zip class lists)

-- a key: a class, and two lists between parentheses
abbrev pub key : List StackItem → Option Axiom
key items = keyed (top_read as_class items) (two_lists (behind_top items))

abbrev pub classes_axiom : SetWord → List Class → Axiom
classes_axiom setword.Same = a.EquivalentClasses
classes_axiom setword.Different = a.DisjointClasses

abbrev pub properties_axiom : SetWord → List ObjProp → Axiom
properties_axiom setword.Same = a.EquivalentObjectProperties
properties_axiom setword.Different = a.DisjointObjectProperties

abbrev pub data_properties_axiom : SetWord → List (List ℕ) → Axiom
data_properties_axiom setword.Same = a.EquivalentDataProperties
data_properties_axiom setword.Different = a.DisjointDataProperties

abbrev pub individuals_axiom : SetWord → List Individual → Axiom
individuals_axiom setword.Same = a.SameIndividual
individuals_axiom setword.Different = a.DifferentIndividuals

abbrev pub end_axiom : EndWord → ObjProp × Class → Axiom
end_axiom endword.Domain = λ p. a.ObjectPropertyDomain p.0 p.1
end_axiom endword.Range = λ p. a.ObjectPropertyRange p.0 p.1

abbrev pub trait_axiom : TraitWord → ObjProp → Axiom
trait_axiom traitword.Functional = a.FunctionalObjectProperty
trait_axiom traitword.InverseFunctional = a.InverseFunctionalObjectProperty
trait_axiom traitword.Reflexive = a.ReflexiveObjectProperty
trait_axiom traitword.Irreflexive = a.IrreflexiveObjectProperty
trait_axiom traitword.Symmetric = a.SymmetricObjectProperty
trait_axiom traitword.Asymmetric = a.AsymmetricObjectProperty
trait_axiom traitword.Transitive = a.TransitiveObjectProperty

abbrev pub names_axiom : NamesWord → List ℕ × List ℕ → Axiom
names_axiom namesword.SubDataPropertyOf = λ p. a.SubDataPropertyOf p.0 p.1
names_axiom namesword.SubAnnotationPropertyOf = λ p. a.SubAnnotationPropertyOf p.0 p.1
names_axiom namesword.AnnotationPropertyDomain = λ p. a.AnnotationPropertyDomain p.0 p.1
names_axiom namesword.AnnotationPropertyRange = λ p. a.AnnotationPropertyRange p.0 p.1

abbrev pub fact_axiom : FactWord → ObjProp × (Individual × Individual) → Axiom
fact_axiom factword.Holds = λ p. a.ObjectPropertyAssertion p.0 p.1.0 p.1.1
fact_axiom factword.Fails = λ p. a.NegativeObjectPropertyAssertion p.0 p.1.0 p.1.1

abbrev pub data_fact_axiom : FactWord → List ℕ × (Individual × Literal) → Axiom
data_fact_axiom factword.Holds = λ p. a.DataPropertyAssertion p.0 p.1.0 p.1.1
data_fact_axiom factword.Fails = λ p. a.NegativeDataPropertyAssertion p.0 p.1.0 p.1.1

abbrev pub axiom_of : AxiomWord → List StackItem → Option Axiom
axiom_of axiomword.SubClassOf items = option_map (λ p. a.SubClassOf p.0 p.1) (two as_class as_class items)
axiom_of (axiomword.Classes word) items = option_map (classes_axiom word) (each as_class items)
axiom_of axiomword.DisjointUnion items = option_map (λ p. a.DisjointUnion p.0 p.1) (first_and_each as_name as_class items)
axiom_of axiomword.SubObjectPropertyOf items = option_map (λ p. below p.0 p.1) (two as_lower as_property items)
axiom_of (axiomword.Properties word) items = option_map (properties_axiom word) (each as_property items)
axiom_of axiomword.Inverse items = option_map (λ p. a.InverseObjectProperties p.0 p.1) (two as_property as_property items)
axiom_of (axiomword.PropertyEnd word) items = option_map (end_axiom word) (two as_property as_class items)
axiom_of (axiomword.Trait word) items = option_map (trait_axiom word) (one as_property items)
axiom_of (axiomword.Names word) items = option_map (names_axiom word) (two as_name as_name items)
axiom_of (axiomword.DataProperties word) items = option_map (data_properties_axiom word) (each as_name items)
axiom_of axiomword.DataPropertyDomain items = option_map (λ p. a.DataPropertyDomain p.0 p.1) (two as_name as_class items)
axiom_of axiomword.DataPropertyRange items = option_map (λ p. a.DataPropertyRange p.0 p.1) (two as_name as_range items)
axiom_of axiomword.FunctionalDataProperty items = option_map a.FunctionalDataProperty (one as_name items)
axiom_of axiomword.DatatypeDefinition items = option_map (λ p. a.DatatypeDefinition p.0 p.1) (two as_name as_range items)
axiom_of axiomword.HasKey items = key items
axiom_of (axiomword.Individuals word) items = option_map (individuals_axiom word) (each as_individual items)
axiom_of axiomword.ClassAssertion items = option_map (λ p. a.ClassAssertion p.0 p.1) (two as_class as_individual items)
axiom_of (axiomword.PropertyFact word) items = option_map (fact_axiom word) (three as_property as_individual as_individual items)
axiom_of (axiomword.DataFact word) items = option_map (data_fact_axiom word) (three as_name as_individual as_literal items)
axiom_of axiomword.Declaration items = option_map a.Declaration (one as_entity items)
axiom_of axiomword.AnnotationAssertion items = option_map (λ p. a.AnnotationAssertion p.0 p.1.0 p.1.1) (three as_name as_subject as_value items)
