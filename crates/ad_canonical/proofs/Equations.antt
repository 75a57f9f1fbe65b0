-- What makes a data range, a class expression and an annotation spellable, at each variant.
use Rattle.std.proofs.Common.{◌≡◌, ℕ, List, [], ◌∷◌, map, Option, None, Some, IfSome, refl, sym, ◌∙◌, ap}
use Rattle.std.specs.List.{AllByRecursion}
use Rattle.ad_tree.specs.declared.names.ObjProp.{ObjProp}
use Rattle.ad_tree.specs.declared.names.Individual.{Individual}
use Rattle.ad_tree.specs.declared.literals.Literal.{Literal}
use Rattle.ad_tree.specs.declared.literals.Facet.{Facet}
use Rattle.ad_tree.specs.declared.ranges.Range.{Range}
use Rattle.ad_tree.specs.declared.ranges.Range.TheVariants as r
use Rattle.ad_tree.specs.declared.ranges.Range.TheOpen.{Range-F}
use Rattle.ad_tree.specs.declared.ranges.Range.TheViews.{roll-Range}
use Rattle.ad_tree.specs.declared.ranges.Range.TheFolds.{rec-Range, rec-roll-Range, map-Range}
use Rattle.ad_tree.specs.declared.classes.Class.{Class}
use Rattle.ad_tree.specs.declared.classes.Class.TheVariants as c
use Rattle.ad_tree.specs.declared.classes.Class.TheOpen.{Class-F}
use Rattle.ad_tree.specs.declared.classes.Class.TheViews.{roll-Class}
use Rattle.ad_tree.specs.declared.classes.Class.TheFolds.{rec-Class, rec-roll-Class, map-Class}
use Rattle.ad_tree.specs.declared.notes.Value.{Value}
use Rattle.ad_tree.specs.declared.notes.Annotation.{Annotation}
use Rattle.ad_tree.specs.declared.notes.Annotation.TheOpen.{Annotation-F}
use Rattle.ad_tree.specs.declared.notes.Annotation.TheViews.{roll-Annotation}
use Rattle.ad_tree.specs.declared.notes.Annotation.TheFolds.{rec-roll-Annotation, map-Annotation}
use Rattle.ad_canonical.specs.Spellable.{SpellableIri, SpellableNumber, EachOfSome, SpellableLiteral, SpellableProperty, SpellableIndividual, SpellableFacet, SpellableValue, SpellableRange, range_step, SpellableClass, class_step, SpellableAnnotation, annotation_step}

all_map : {X Y : Type 0} (v : X → Y) (k : Y → Type 0) (xs : List X) → AllByRecursion (λ x. k (v x)) xs ≡ AllByRecursion k (map v xs)
all_map v k [] = refl
all_map v k (x ∷ xs) = ap (λ (R : Type 0). k (v x) × R) (all_map v k xs)

some_map : {X Y : Type 0} (v : X → Y) (k : Y → Type 0) (xs : List X) → EachOfSome (λ x. k (v x)) xs ≡ EachOfSome k (map v xs)
some_map v k [] = refl
some_map v k (x ∷ xs) = ap (λ (R : Type 0). k (v x) × R) (all_map v k xs)

range_natural : (X : Type 0) (v : X → Range) (k : Range → Type 0) (x : Range-F X) → range_step X v (λ p. k (v p)) x ≡ range_step Range (λ y. y) k (map-Range X Range v x)
range_natural X v k (Range-F.Named datatype) = refl
range_natural X v k (Range-F.And operands) = some_map v k operands
range_natural X v k (Range-F.Or operands) = some_map v k operands
range_natural X v k (Range-F.Not operand) = refl
range_natural X v k (Range-F.OneOf values) = refl
range_natural X v k (Range-F.Restriction datatype facets) = refl

range_at : (x : Range) (y : Range-F Range) → roll-Range y ≡ x → SpellableRange x ≡ range_step Range (λ z. z) SpellableRange y
unfolding SpellableRange
range_at x y e = ap (rec-Range (Type 0) range_step) (sym e) ∙ rec-roll-Range (Type 0) range_step range_natural y

pub spellable_range-named : (datatype : List ℕ) → SpellableRange (r.Named datatype) ≡ (SpellableIri datatype)
spellable_range-named datatype = range_at _ _ (r.rolls-Named datatype)

pub spellable_range-and : (operands : List Range) → SpellableRange (r.And operands) ≡ (EachOfSome SpellableRange operands)
spellable_range-and operands = range_at _ _ (r.rolls-And operands)

pub spellable_range-or : (operands : List Range) → SpellableRange (r.Or operands) ≡ (EachOfSome SpellableRange operands)
spellable_range-or operands = range_at _ _ (r.rolls-Or operands)

pub spellable_range-not : (operand : Range) → SpellableRange (r.Not operand) ≡ (SpellableRange operand)
spellable_range-not operand = range_at _ _ (r.rolls-Not operand)

pub spellable_range-one_of : (values : List Literal) → SpellableRange (r.OneOf values) ≡ (EachOfSome SpellableLiteral values)
spellable_range-one_of values = range_at _ _ (r.rolls-OneOf values)

pub spellable_range-restriction : (datatype : List ℕ) (facets : List Facet) → SpellableRange (r.Restriction datatype facets) ≡ (SpellableIri datatype × EachOfSome SpellableFacet facets)
spellable_range-restriction datatype facets = range_at _ _ (r.rolls-Restriction datatype facets)

class_natural : (X : Type 0) (v : X → Class) (k : Class → Type 0) (x : Class-F X) → class_step X v (λ p. k (v p)) x ≡ class_step Class (λ y. y) k (map-Class X Class v x)
class_natural X v k (Class-F.Named class) = refl
class_natural X v k (Class-F.And operands) = some_map v k operands
class_natural X v k (Class-F.Or operands) = some_map v k operands
class_natural X v k (Class-F.Not operand) = refl
class_natural X v k (Class-F.OneOf members) = refl
class_natural X v k (Class-F.ObjSome property filler) = refl
class_natural X v k (Class-F.ObjAll property filler) = refl
class_natural X v k (Class-F.ObjValue property individual) = refl
class_natural X v k (Class-F.ObjSelf property) = refl
class_natural X v k (Class-F.ObjMin number property None) = refl
class_natural X v k (Class-F.ObjMin number property (Some filler)) = refl
class_natural X v k (Class-F.ObjMax number property None) = refl
class_natural X v k (Class-F.ObjMax number property (Some filler)) = refl
class_natural X v k (Class-F.ObjExact number property None) = refl
class_natural X v k (Class-F.ObjExact number property (Some filler)) = refl
class_natural X v k (Class-F.DataSome property filler) = refl
class_natural X v k (Class-F.DataAll property filler) = refl
class_natural X v k (Class-F.DataValue property value) = refl
class_natural X v k (Class-F.DataMin number property filler) = refl
class_natural X v k (Class-F.DataMax number property filler) = refl
class_natural X v k (Class-F.DataExact number property filler) = refl

class_at : (x : Class) (y : Class-F Class) → roll-Class y ≡ x → SpellableClass x ≡ class_step Class (λ z. z) SpellableClass y
unfolding SpellableClass
class_at x y e = ap (rec-Class (Type 0) class_step) (sym e) ∙ rec-roll-Class (Type 0) class_step class_natural y

pub spellable_class-named : (class : List ℕ) → SpellableClass (c.Named class) ≡ (SpellableIri class)
spellable_class-named class = class_at _ _ (c.rolls-Named class)

pub spellable_class-and : (operands : List Class) → SpellableClass (c.And operands) ≡ (EachOfSome SpellableClass operands)
spellable_class-and operands = class_at _ _ (c.rolls-And operands)

pub spellable_class-or : (operands : List Class) → SpellableClass (c.Or operands) ≡ (EachOfSome SpellableClass operands)
spellable_class-or operands = class_at _ _ (c.rolls-Or operands)

pub spellable_class-not : (operand : Class) → SpellableClass (c.Not operand) ≡ (SpellableClass operand)
spellable_class-not operand = class_at _ _ (c.rolls-Not operand)

pub spellable_class-one_of : (members : List Individual) → SpellableClass (c.OneOf members) ≡ (EachOfSome SpellableIndividual members)
spellable_class-one_of members = class_at _ _ (c.rolls-OneOf members)

pub spellable_class-obj_some : (property : ObjProp) (filler : Class) → SpellableClass (c.ObjSome property filler) ≡ (SpellableProperty property × SpellableClass filler)
spellable_class-obj_some property filler = class_at _ _ (c.rolls-ObjSome property filler)

pub spellable_class-obj_all : (property : ObjProp) (filler : Class) → SpellableClass (c.ObjAll property filler) ≡ (SpellableProperty property × SpellableClass filler)
spellable_class-obj_all property filler = class_at _ _ (c.rolls-ObjAll property filler)

pub spellable_class-obj_value : (property : ObjProp) (individual : Individual) → SpellableClass (c.ObjValue property individual) ≡ (SpellableProperty property × SpellableIndividual individual)
spellable_class-obj_value property individual = class_at _ _ (c.rolls-ObjValue property individual)

pub spellable_class-obj_self : (property : ObjProp) → SpellableClass (c.ObjSelf property) ≡ (SpellableProperty property)
spellable_class-obj_self property = class_at _ _ (c.rolls-ObjSelf property)

pub spellable_class-obj_min : (number : ℕ) (property : ObjProp) (filler : Option Class) → SpellableClass (c.ObjMin number property filler) ≡ (SpellableNumber number × SpellableProperty property × IfSome filler SpellableClass)
spellable_class-obj_min number property None = class_at _ _ (c.rolls-ObjMin number property None)
spellable_class-obj_min number property (Some filler) = class_at _ _ (c.rolls-ObjMin number property (Some filler))

pub spellable_class-obj_max : (number : ℕ) (property : ObjProp) (filler : Option Class) → SpellableClass (c.ObjMax number property filler) ≡ (SpellableNumber number × SpellableProperty property × IfSome filler SpellableClass)
spellable_class-obj_max number property None = class_at _ _ (c.rolls-ObjMax number property None)
spellable_class-obj_max number property (Some filler) = class_at _ _ (c.rolls-ObjMax number property (Some filler))

pub spellable_class-obj_exact : (number : ℕ) (property : ObjProp) (filler : Option Class) → SpellableClass (c.ObjExact number property filler) ≡ (SpellableNumber number × SpellableProperty property × IfSome filler SpellableClass)
spellable_class-obj_exact number property None = class_at _ _ (c.rolls-ObjExact number property None)
spellable_class-obj_exact number property (Some filler) = class_at _ _ (c.rolls-ObjExact number property (Some filler))

pub spellable_class-data_some : (property : List ℕ) (filler : Range) → SpellableClass (c.DataSome property filler) ≡ (SpellableIri property × SpellableRange filler)
spellable_class-data_some property filler = class_at _ _ (c.rolls-DataSome property filler)

pub spellable_class-data_all : (property : List ℕ) (filler : Range) → SpellableClass (c.DataAll property filler) ≡ (SpellableIri property × SpellableRange filler)
spellable_class-data_all property filler = class_at _ _ (c.rolls-DataAll property filler)

pub spellable_class-data_value : (property : List ℕ) (value : Literal) → SpellableClass (c.DataValue property value) ≡ (SpellableIri property × SpellableLiteral value)
spellable_class-data_value property value = class_at _ _ (c.rolls-DataValue property value)

pub spellable_class-data_min : (number : ℕ) (property : List ℕ) (filler : Option Range) → SpellableClass (c.DataMin number property filler) ≡ (SpellableNumber number × SpellableIri property × IfSome filler SpellableRange)
spellable_class-data_min number property filler = class_at _ _ (c.rolls-DataMin number property filler)

pub spellable_class-data_max : (number : ℕ) (property : List ℕ) (filler : Option Range) → SpellableClass (c.DataMax number property filler) ≡ (SpellableNumber number × SpellableIri property × IfSome filler SpellableRange)
spellable_class-data_max number property filler = class_at _ _ (c.rolls-DataMax number property filler)

pub spellable_class-data_exact : (number : ℕ) (property : List ℕ) (filler : Option Range) → SpellableClass (c.DataExact number property filler) ≡ (SpellableNumber number × SpellableIri property × IfSome filler SpellableRange)
spellable_class-data_exact number property filler = class_at _ _ (c.rolls-DataExact number property filler)

annotation_natural : (X : Type 0) (v : X → Annotation) (k : Annotation → Type 0) (x : Annotation-F X) → annotation_step X v (λ p. k (v p)) x ≡ annotation_step Annotation (λ y. y) k (map-Annotation X Annotation v x)
annotation_natural X v k x = ap (λ (P : Type 0). P × SpellableIri x.property × SpellableValue x.value) (all_map v k x.notes)

pub spellable_annotation : (notes : List Annotation) (property : List ℕ) (value : Value) → SpellableAnnotation (roll-Annotation (record { notes = notes; property = property; value = value })) ≡ (AllByRecursion SpellableAnnotation notes × SpellableIri property × SpellableValue value)
unfolding SpellableAnnotation
spellable_annotation notes property value = rec-roll-Annotation (Type 0) annotation_step annotation_natural (record { notes = notes; property = property; value = value })
