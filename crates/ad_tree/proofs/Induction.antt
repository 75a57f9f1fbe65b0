-- Inductions over the recursive types of the trees: a record with a case for each variant.
use Rattle.std.proofs.Common.{ℕ, List, [], ◌∷◌, map, Option, None, Some, IfSome, sym, subst}
use Rattle.std.specs.List.{AllByRecursion}
use Rattle.ad_tree.specs.declared.names.ObjProp.{ObjProp}
use Rattle.ad_tree.specs.declared.names.Individual.{Individual}
use Rattle.ad_tree.specs.declared.literals.Literal.{Literal}
use Rattle.ad_tree.specs.declared.literals.Facet.{Facet}
use Rattle.ad_tree.specs.declared.notes.Value.{Value}
use Rattle.ad_tree.specs.declared.notes.Annotation.{Annotation}
use Rattle.ad_tree.specs.declared.notes.Annotation.TheViews.{roll-Annotation}
use Rattle.ad_tree.specs.declared.notes.Annotation.TheFolds.{ind-Annotation}
use Rattle.ad_tree.specs.declared.ranges.Range.{Range}
use Rattle.ad_tree.specs.declared.ranges.Range.TheVariants as r
use Rattle.ad_tree.specs.declared.ranges.Range.TheOpen.{Range-F}
use Rattle.ad_tree.specs.declared.ranges.Range.TheViews.{roll-Range}
use Rattle.ad_tree.specs.declared.ranges.Range.TheFolds.{ind-Range, map-Range}
use Rattle.ad_tree.specs.declared.classes.Class.{Class}
use Rattle.ad_tree.specs.declared.classes.Class.TheVariants as c
use Rattle.ad_tree.specs.declared.classes.Class.TheOpen.{Class-F}
use Rattle.ad_tree.specs.declared.classes.Class.TheViews.{roll-Class}
use Rattle.ad_tree.specs.declared.classes.Class.TheFolds.{ind-Class, map-Class}

-- what comes beside each holds of each
each_first : {X : Type 0} (P : X → Type 0) (es : List ((x : X) × P x)) → AllByRecursion P (map (λ e. e.0) es)
each_first P [] = tt
each_first P (e ∷ es) = (e.1, each_first P es)

-- the cases of an induction over Range
pub record RangeCases (P : Range → Type 0) : Type 0 where
  pub named : (datatype : List ℕ) → P (r.Named datatype)
  pub intersection : (operands : List Range) → AllByRecursion P operands → P (r.And operands)
  pub union : (operands : List Range) → AllByRecursion P operands → P (r.Or operands)
  pub complement : (operand : Range) → P operand → P (r.Not operand)
  pub one_of : (values : List Literal) → P (r.OneOf values)
  pub restriction : (datatype : List ℕ) (facets : List Facet) → P (r.Restriction datatype facets)

range_layer : (P : Range → Type 0) → RangeCases P → (y : Range-F ((x : Range) × P x)) → P (roll-Range (map-Range ((x : Range) × P x) Range (λ e. e.0) y))
range_layer P cases (Range-F.Named datatype) = subst P (sym (r.rolls-Named datatype)) (cases.named datatype)
range_layer P cases (Range-F.And operands) = subst P (sym (r.rolls-And (map (λ e. e.0) operands))) (cases.intersection (map (λ e. e.0) operands) (each_first P operands))
range_layer P cases (Range-F.Or operands) = subst P (sym (r.rolls-Or (map (λ e. e.0) operands))) (cases.union (map (λ e. e.0) operands) (each_first P operands))
range_layer P cases (Range-F.Not operand) = subst P (sym (r.rolls-Not operand.0)) (cases.complement operand.0 operand.1)
range_layer P cases (Range-F.OneOf values) = subst P (sym (r.rolls-OneOf values)) (cases.one_of values)
range_layer P cases (Range-F.Restriction datatype facets) = subst P (sym (r.rolls-Restriction datatype facets)) (cases.restriction datatype facets)

pub range_induction : (P : Range → Type 0) → RangeCases P → (x : Range) → P x
range_induction P cases = ind-Range P (λ x y is. subst (λ z. P (roll-Range z)) is (range_layer P cases y))

-- the cases of an induction over Class
pub record ClassCases (P : Class → Type 0) : Type 0 where
  pub named : (class : List ℕ) → P (c.Named class)
  pub intersection : (operands : List Class) → AllByRecursion P operands → P (c.And operands)
  pub union : (operands : List Class) → AllByRecursion P operands → P (c.Or operands)
  pub complement : (operand : Class) → P operand → P (c.Not operand)
  pub one_of : (individuals : List Individual) → P (c.OneOf individuals)
  pub obj_some : (property : ObjProp) (filler : Class) → P filler → P (c.ObjSome property filler)
  pub obj_all : (property : ObjProp) (filler : Class) → P filler → P (c.ObjAll property filler)
  pub obj_value : (property : ObjProp) (individual : Individual) → P (c.ObjValue property individual)
  pub obj_self : (property : ObjProp) → P (c.ObjSelf property)
  pub obj_min : (n : ℕ) (property : ObjProp) (filler : Option Class) → IfSome filler P → P (c.ObjMin n property filler)
  pub obj_max : (n : ℕ) (property : ObjProp) (filler : Option Class) → IfSome filler P → P (c.ObjMax n property filler)
  pub obj_exact : (n : ℕ) (property : ObjProp) (filler : Option Class) → IfSome filler P → P (c.ObjExact n property filler)
  pub data_some : (property : List ℕ) (range : Range) → P (c.DataSome property range)
  pub data_all : (property : List ℕ) (range : Range) → P (c.DataAll property range)
  pub data_value : (property : List ℕ) (value : Literal) → P (c.DataValue property value)
  pub data_min : (n : ℕ) (property : List ℕ) (range : Option Range) → P (c.DataMin n property range)
  pub data_max : (n : ℕ) (property : List ℕ) (range : Option Range) → P (c.DataMax n property range)
  pub data_exact : (n : ℕ) (property : List ℕ) (range : Option Range) → P (c.DataExact n property range)

class_layer : (P : Class → Type 0) → ClassCases P → (y : Class-F ((x : Class) × P x)) → P (roll-Class (map-Class ((x : Class) × P x) Class (λ e. e.0) y))
class_layer P cases (Class-F.Named class) = subst P (sym (c.rolls-Named class)) (cases.named class)
class_layer P cases (Class-F.And operands) = subst P (sym (c.rolls-And (map (λ e. e.0) operands))) (cases.intersection (map (λ e. e.0) operands) (each_first P operands))
class_layer P cases (Class-F.Or operands) = subst P (sym (c.rolls-Or (map (λ e. e.0) operands))) (cases.union (map (λ e. e.0) operands) (each_first P operands))
class_layer P cases (Class-F.Not operand) = subst P (sym (c.rolls-Not operand.0)) (cases.complement operand.0 operand.1)
class_layer P cases (Class-F.OneOf individuals) = subst P (sym (c.rolls-OneOf individuals)) (cases.one_of individuals)
class_layer P cases (Class-F.ObjSome property filler) = subst P (sym (c.rolls-ObjSome property filler.0)) (cases.obj_some property filler.0 filler.1)
class_layer P cases (Class-F.ObjAll property filler) = subst P (sym (c.rolls-ObjAll property filler.0)) (cases.obj_all property filler.0 filler.1)
class_layer P cases (Class-F.ObjValue property individual) = subst P (sym (c.rolls-ObjValue property individual)) (cases.obj_value property individual)
class_layer P cases (Class-F.ObjSelf property) = subst P (sym (c.rolls-ObjSelf property)) (cases.obj_self property)
class_layer P cases (Class-F.ObjMin n property None) = subst P (sym (c.rolls-ObjMin n property None)) (cases.obj_min n property None tt)
class_layer P cases (Class-F.ObjMin n property (Some filler)) = subst P (sym (c.rolls-ObjMin n property (Some filler.0))) (cases.obj_min n property (Some filler.0) filler.1)
class_layer P cases (Class-F.ObjMax n property None) = subst P (sym (c.rolls-ObjMax n property None)) (cases.obj_max n property None tt)
class_layer P cases (Class-F.ObjMax n property (Some filler)) = subst P (sym (c.rolls-ObjMax n property (Some filler.0))) (cases.obj_max n property (Some filler.0) filler.1)
class_layer P cases (Class-F.ObjExact n property None) = subst P (sym (c.rolls-ObjExact n property None)) (cases.obj_exact n property None tt)
class_layer P cases (Class-F.ObjExact n property (Some filler)) = subst P (sym (c.rolls-ObjExact n property (Some filler.0))) (cases.obj_exact n property (Some filler.0) filler.1)
class_layer P cases (Class-F.DataSome property range) = subst P (sym (c.rolls-DataSome property range)) (cases.data_some property range)
class_layer P cases (Class-F.DataAll property range) = subst P (sym (c.rolls-DataAll property range)) (cases.data_all property range)
class_layer P cases (Class-F.DataValue property value) = subst P (sym (c.rolls-DataValue property value)) (cases.data_value property value)
class_layer P cases (Class-F.DataMin n property range) = subst P (sym (c.rolls-DataMin n property range)) (cases.data_min n property range)
class_layer P cases (Class-F.DataMax n property range) = subst P (sym (c.rolls-DataMax n property range)) (cases.data_max n property range)
class_layer P cases (Class-F.DataExact n property range) = subst P (sym (c.rolls-DataExact n property range)) (cases.data_exact n property range)

pub class_induction : (P : Class → Type 0) → ClassCases P → (x : Class) → P x
class_induction P cases = ind-Class P (λ x y is. subst (λ z. P (roll-Class z)) is (class_layer P cases y))

-- an annotation, after its own annotations
pub record AnnotationCases (P : Annotation → Type 0) : Type 0 where
  pub annotation : (notes : List Annotation) (property : List ℕ) (value : Value) → AllByRecursion P notes → P (roll-Annotation (record { notes = notes; property = property; value = value }))

pub annotation_induction : (P : Annotation → Type 0) → AnnotationCases P → (x : Annotation) → P x
annotation_induction P cases = ind-Annotation P (λ x y is. subst (λ z. P (roll-Annotation z)) is (cases.annotation (map (λ e. e.0) y.notes) y.property y.value (each_first P y.notes)))
