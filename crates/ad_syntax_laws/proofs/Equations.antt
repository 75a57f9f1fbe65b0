-- The equations of the folds over the trees, at each variant.
use Rattle.std.proofs.Common.{◌≡◌, ℕ, Bool, false, List, ◌++◌, map, Option, None, Some, sym, ◌∙◌, ap}
use Rattle.std.specs.List.{flat_map}
use Rattle.std.proofs.lemmas.List.Folds.{flat_map-map}
use Rattle.ad_base.specs.declared.limits.Side.{Side}
use Rattle.ad_locality.specs.Signature as sig
use Rattle.ad_locality.specs.Signature.{named, of_property, of_individual, of_literal, of_range, of_class, of_optional}
use Rattle.ad_locality.specs.Columns.{everything}
use Rattle.ad_locality.specs.Locality as table
use Rattle.ad_locality.specs.Locality.{class_surely, range_surely, optional_range, name_surely, property_surely, intersection, union, complement, enumeration, some_of, all_of, at_least, at_most, exactly, filler}
use Rattle.ad_locality.specs.declared.surely.Surely.{Surely}
use Rattle.ad_entity.specs.declared.entities.Entity.{Entity}
use Rattle.ad_entity.specs.declared.entities.EntityKind.TheVariants as kinds
use Rattle.ad_tree.specs.declared.names.ObjProp.{ObjProp}
use Rattle.ad_tree.specs.declared.names.Individual.{Individual}
use Rattle.ad_tree.specs.declared.literals.Literal.{Literal}
use Rattle.ad_tree.specs.declared.literals.Facet.{Facet}
use Rattle.ad_tree.specs.declared.ranges.Range.{Range}
use Rattle.ad_tree.specs.declared.ranges.Range.TheVariants as r
use Rattle.ad_tree.specs.declared.ranges.Range.TheOpen.{Range-F}
use Rattle.ad_tree.specs.declared.ranges.Range.TheViews.{roll-Range}
use Rattle.ad_tree.specs.declared.ranges.Range.TheFolds.{fold-Range, map-Range, fold-roll-Range}
use Rattle.ad_tree.specs.declared.classes.Class.{Class}
use Rattle.ad_tree.specs.declared.classes.Class.TheVariants as c
use Rattle.ad_tree.specs.declared.classes.Class.TheOpen.{Class-F}
use Rattle.ad_tree.specs.declared.classes.Class.TheViews.{roll-Class}
use Rattle.ad_tree.specs.declared.classes.Class.TheFolds.{fold-Class, map-Class, fold-roll-Class}

-- what is sure of an optional filler
abbrev pub optional_class : Side → (Entity → Bool) → Option Class → Surely
optional_class side seen None = everything
optional_class side seen (Some class) = class_surely side seen class

range_surely-at : (side : Side) (seen : Entity → Bool) (x : Range) (y : Range-F Range) → roll-Range y ≡ x → range_surely side seen x ≡ table.range_step side seen (map-Range Range Surely (range_surely side seen) y)
unfolding range_surely
range_surely-at side seen x y e = ap (fold-Range Surely (table.range_step side seen)) (sym e) ∙ fold-roll-Range Surely (table.range_step side seen) y

pub range_surely-named : (side : Side) (seen : Entity → Bool) (datatype : List ℕ) → range_surely side seen (r.Named datatype) ≡ name_surely side seen kinds.Datatype datatype
range_surely-named side seen datatype = range_surely-at side seen _ _ (r.rolls-Named datatype)

pub range_surely-intersection : (side : Side) (seen : Entity → Bool) (operands : List Range) → range_surely side seen (r.And operands) ≡ intersection (map (range_surely side seen) operands)
range_surely-intersection side seen operands = range_surely-at side seen _ _ (r.rolls-And operands)

pub range_surely-union : (side : Side) (seen : Entity → Bool) (operands : List Range) → range_surely side seen (r.Or operands) ≡ union (map (range_surely side seen) operands)
range_surely-union side seen operands = range_surely-at side seen _ _ (r.rolls-Or operands)

pub range_surely-complement : (side : Side) (seen : Entity → Bool) (operand : Range) → range_surely side seen (r.Not operand) ≡ complement (range_surely side seen operand)
range_surely-complement side seen operand = range_surely-at side seen _ _ (r.rolls-Not operand)

pub range_surely-one_of : (side : Side) (seen : Entity → Bool) (values : List Literal) → range_surely side seen (r.OneOf values) ≡ enumeration values
range_surely-one_of side seen values = range_surely-at side seen _ _ (r.rolls-OneOf values)

pub range_surely-restriction : (side : Side) (seen : Entity → Bool) (datatype : List ℕ) (facets : List Facet) → range_surely side seen (r.Restriction datatype facets) ≡ record { empty = (name_surely side seen kinds.Datatype datatype).empty; whole = false; nonempty = false }
range_surely-restriction side seen datatype facets = range_surely-at side seen _ _ (r.rolls-Restriction datatype facets)

class_surely-at : (side : Side) (seen : Entity → Bool) (x : Class) (y : Class-F Class) → roll-Class y ≡ x → class_surely side seen x ≡ table.class_step side seen (map-Class Class Surely (class_surely side seen) y)
unfolding class_surely
class_surely-at side seen x y e = ap (fold-Class Surely (table.class_step side seen)) (sym e) ∙ fold-roll-Class Surely (table.class_step side seen) y

pub class_surely-named : (side : Side) (seen : Entity → Bool) (class : List ℕ) → class_surely side seen (c.Named class) ≡ name_surely side seen kinds.Class class
class_surely-named side seen class = class_surely-at side seen _ _ (c.rolls-Named class)

pub class_surely-intersection : (side : Side) (seen : Entity → Bool) (operands : List Class) → class_surely side seen (c.And operands) ≡ intersection (map (class_surely side seen) operands)
class_surely-intersection side seen operands = class_surely-at side seen _ _ (c.rolls-And operands)

pub class_surely-union : (side : Side) (seen : Entity → Bool) (operands : List Class) → class_surely side seen (c.Or operands) ≡ union (map (class_surely side seen) operands)
class_surely-union side seen operands = class_surely-at side seen _ _ (c.rolls-Or operands)

pub class_surely-complement : (side : Side) (seen : Entity → Bool) (operand : Class) → class_surely side seen (c.Not operand) ≡ complement (class_surely side seen operand)
class_surely-complement side seen operand = class_surely-at side seen _ _ (c.rolls-Not operand)

pub class_surely-one_of : (side : Side) (seen : Entity → Bool) (individuals : List Individual) → class_surely side seen (c.OneOf individuals) ≡ enumeration individuals
class_surely-one_of side seen individuals = class_surely-at side seen _ _ (c.rolls-OneOf individuals)

pub class_surely-obj_some : (side : Side) (seen : Entity → Bool) (property : ObjProp) (filler : Class) → class_surely side seen (c.ObjSome property filler) ≡ some_of (property_surely side seen property) (class_surely side seen filler)
class_surely-obj_some side seen property filler = class_surely-at side seen _ _ (c.rolls-ObjSome property filler)

pub class_surely-obj_all : (side : Side) (seen : Entity → Bool) (property : ObjProp) (filler : Class) → class_surely side seen (c.ObjAll property filler) ≡ all_of (property_surely side seen property) (class_surely side seen filler)
class_surely-obj_all side seen property filler = class_surely-at side seen _ _ (c.rolls-ObjAll property filler)

pub class_surely-obj_value : (side : Side) (seen : Entity → Bool) (property : ObjProp) (individual : Individual) → class_surely side seen (c.ObjValue property individual) ≡ property_surely side seen property
class_surely-obj_value side seen property individual = class_surely-at side seen _ _ (c.rolls-ObjValue property individual)

pub class_surely-obj_self : (side : Side) (seen : Entity → Bool) (property : ObjProp) → class_surely side seen (c.ObjSelf property) ≡ property_surely side seen property
class_surely-obj_self side seen property = class_surely-at side seen _ _ (c.rolls-ObjSelf property)

pub class_surely-obj_min : (side : Side) (seen : Entity → Bool) (n : ℕ) (property : ObjProp) (filler : Option Class) → class_surely side seen (c.ObjMin n property filler) ≡ at_least n (property_surely side seen property) (optional_class side seen filler)
class_surely-obj_min side seen n property None = class_surely-at side seen _ _ (c.rolls-ObjMin n property None)
class_surely-obj_min side seen n property (Some filler) = class_surely-at side seen _ _ (c.rolls-ObjMin n property (Some filler))

pub class_surely-obj_max : (side : Side) (seen : Entity → Bool) (n : ℕ) (property : ObjProp) (filler : Option Class) → class_surely side seen (c.ObjMax n property filler) ≡ at_most n (property_surely side seen property) (optional_class side seen filler)
class_surely-obj_max side seen n property None = class_surely-at side seen _ _ (c.rolls-ObjMax n property None)
class_surely-obj_max side seen n property (Some filler) = class_surely-at side seen _ _ (c.rolls-ObjMax n property (Some filler))

pub class_surely-obj_exact : (side : Side) (seen : Entity → Bool) (n : ℕ) (property : ObjProp) (filler : Option Class) → class_surely side seen (c.ObjExact n property filler) ≡ exactly n (property_surely side seen property) (optional_class side seen filler)
class_surely-obj_exact side seen n property None = class_surely-at side seen _ _ (c.rolls-ObjExact n property None)
class_surely-obj_exact side seen n property (Some filler) = class_surely-at side seen _ _ (c.rolls-ObjExact n property (Some filler))

pub class_surely-data_some : (side : Side) (seen : Entity → Bool) (property : List ℕ) (range : Range) → class_surely side seen (c.DataSome property range) ≡ some_of (name_surely side seen kinds.DataProperty property) (range_surely side seen range)
class_surely-data_some side seen property range = class_surely-at side seen _ _ (c.rolls-DataSome property range)

pub class_surely-data_all : (side : Side) (seen : Entity → Bool) (property : List ℕ) (range : Range) → class_surely side seen (c.DataAll property range) ≡ all_of (name_surely side seen kinds.DataProperty property) (range_surely side seen range)
class_surely-data_all side seen property range = class_surely-at side seen _ _ (c.rolls-DataAll property range)

pub class_surely-data_value : (side : Side) (seen : Entity → Bool) (property : List ℕ) (value : Literal) → class_surely side seen (c.DataValue property value) ≡ name_surely side seen kinds.DataProperty property
class_surely-data_value side seen property value = class_surely-at side seen _ _ (c.rolls-DataValue property value)

pub class_surely-data_min : (side : Side) (seen : Entity → Bool) (n : ℕ) (property : List ℕ) (range : Option Range) → class_surely side seen (c.DataMin n property range) ≡ at_least n (name_surely side seen kinds.DataProperty property) (optional_range side seen range)
class_surely-data_min side seen n property range = class_surely-at side seen _ _ (c.rolls-DataMin n property range)

pub class_surely-data_max : (side : Side) (seen : Entity → Bool) (n : ℕ) (property : List ℕ) (range : Option Range) → class_surely side seen (c.DataMax n property range) ≡ at_most n (name_surely side seen kinds.DataProperty property) (optional_range side seen range)
class_surely-data_max side seen n property range = class_surely-at side seen _ _ (c.rolls-DataMax n property range)

pub class_surely-data_exact : (side : Side) (seen : Entity → Bool) (n : ℕ) (property : List ℕ) (range : Option Range) → class_surely side seen (c.DataExact n property range) ≡ exactly n (name_surely side seen kinds.DataProperty property) (optional_range side seen range)
class_surely-data_exact side seen n property range = class_surely-at side seen _ _ (c.rolls-DataExact n property range)

of_range-at : (x : Range) (y : Range-F Range) → roll-Range y ≡ x → of_range x ≡ sig.range_step (map-Range Range (List Entity) of_range y)
unfolding of_range
of_range-at x y e = ap (fold-Range (List Entity) sig.range_step) (sym e) ∙ fold-roll-Range (List Entity) sig.range_step y

pub of_range-named : (datatype : List ℕ) → of_range (r.Named datatype) ≡ named kinds.Datatype datatype
of_range-named datatype = of_range-at _ _ (r.rolls-Named datatype)

pub of_range-intersection : (operands : List Range) → of_range (r.And operands) ≡ flat_map of_range operands
of_range-intersection operands = of_range-at _ _ (r.rolls-And operands) ∙ flat_map-map (λ x. x) of_range operands

pub of_range-union : (operands : List Range) → of_range (r.Or operands) ≡ flat_map of_range operands
of_range-union operands = of_range-at _ _ (r.rolls-Or operands) ∙ flat_map-map (λ x. x) of_range operands

pub of_range-complement : (operand : Range) → of_range (r.Not operand) ≡ of_range operand
of_range-complement operand = of_range-at _ _ (r.rolls-Not operand)

pub of_range-one_of : (values : List Literal) → of_range (r.OneOf values) ≡ flat_map of_literal values
of_range-one_of values = of_range-at _ _ (r.rolls-OneOf values)

pub of_range-restriction : (datatype : List ℕ) (facets : List Facet) → of_range (r.Restriction datatype facets) ≡ named kinds.Datatype datatype
of_range-restriction datatype facets = of_range-at _ _ (r.rolls-Restriction datatype facets)

of_class-at : (x : Class) (y : Class-F Class) → roll-Class y ≡ x → of_class x ≡ sig.class_step (map-Class Class (List Entity) of_class y)
unfolding of_class
of_class-at x y e = ap (fold-Class (List Entity) sig.class_step) (sym e) ∙ fold-roll-Class (List Entity) sig.class_step y

pub of_class-named : (class : List ℕ) → of_class (c.Named class) ≡ named kinds.Class class
of_class-named class = of_class-at _ _ (c.rolls-Named class)

pub of_class-intersection : (operands : List Class) → of_class (c.And operands) ≡ flat_map of_class operands
of_class-intersection operands = of_class-at _ _ (c.rolls-And operands) ∙ flat_map-map (λ x. x) of_class operands

pub of_class-union : (operands : List Class) → of_class (c.Or operands) ≡ flat_map of_class operands
of_class-union operands = of_class-at _ _ (c.rolls-Or operands) ∙ flat_map-map (λ x. x) of_class operands

pub of_class-complement : (operand : Class) → of_class (c.Not operand) ≡ of_class operand
of_class-complement operand = of_class-at _ _ (c.rolls-Not operand)

pub of_class-one_of : (individuals : List Individual) → of_class (c.OneOf individuals) ≡ flat_map of_individual individuals
of_class-one_of individuals = of_class-at _ _ (c.rolls-OneOf individuals)

pub of_class-obj_some : (property : ObjProp) (filler : Class) → of_class (c.ObjSome property filler) ≡ of_property property ++ of_class filler
of_class-obj_some property filler = of_class-at _ _ (c.rolls-ObjSome property filler)

pub of_class-obj_all : (property : ObjProp) (filler : Class) → of_class (c.ObjAll property filler) ≡ of_property property ++ of_class filler
of_class-obj_all property filler = of_class-at _ _ (c.rolls-ObjAll property filler)

pub of_class-obj_value : (property : ObjProp) (individual : Individual) → of_class (c.ObjValue property individual) ≡ of_property property ++ of_individual individual
of_class-obj_value property individual = of_class-at _ _ (c.rolls-ObjValue property individual)

pub of_class-obj_self : (property : ObjProp) → of_class (c.ObjSelf property) ≡ of_property property
of_class-obj_self property = of_class-at _ _ (c.rolls-ObjSelf property)

pub of_class-obj_min : (n : ℕ) (property : ObjProp) (filler : Option Class) → of_class (c.ObjMin n property filler) ≡ of_property property ++ of_optional of_class filler
of_class-obj_min n property None = of_class-at _ _ (c.rolls-ObjMin n property None)
of_class-obj_min n property (Some filler) = of_class-at _ _ (c.rolls-ObjMin n property (Some filler))

pub of_class-obj_max : (n : ℕ) (property : ObjProp) (filler : Option Class) → of_class (c.ObjMax n property filler) ≡ of_property property ++ of_optional of_class filler
of_class-obj_max n property None = of_class-at _ _ (c.rolls-ObjMax n property None)
of_class-obj_max n property (Some filler) = of_class-at _ _ (c.rolls-ObjMax n property (Some filler))

pub of_class-obj_exact : (n : ℕ) (property : ObjProp) (filler : Option Class) → of_class (c.ObjExact n property filler) ≡ of_property property ++ of_optional of_class filler
of_class-obj_exact n property None = of_class-at _ _ (c.rolls-ObjExact n property None)
of_class-obj_exact n property (Some filler) = of_class-at _ _ (c.rolls-ObjExact n property (Some filler))

pub of_class-data_some : (property : List ℕ) (range : Range) → of_class (c.DataSome property range) ≡ named kinds.DataProperty property ++ of_range range
of_class-data_some property range = of_class-at _ _ (c.rolls-DataSome property range)

pub of_class-data_all : (property : List ℕ) (range : Range) → of_class (c.DataAll property range) ≡ named kinds.DataProperty property ++ of_range range
of_class-data_all property range = of_class-at _ _ (c.rolls-DataAll property range)

pub of_class-data_value : (property : List ℕ) (value : Literal) → of_class (c.DataValue property value) ≡ named kinds.DataProperty property ++ of_literal value
of_class-data_value property value = of_class-at _ _ (c.rolls-DataValue property value)

pub of_class-data_min : (n : ℕ) (property : List ℕ) (range : Option Range) → of_class (c.DataMin n property range) ≡ named kinds.DataProperty property ++ of_optional of_range range
of_class-data_min n property range = of_class-at _ _ (c.rolls-DataMin n property range)

pub of_class-data_max : (n : ℕ) (property : List ℕ) (range : Option Range) → of_class (c.DataMax n property range) ≡ named kinds.DataProperty property ++ of_optional of_range range
of_class-data_max n property range = of_class-at _ _ (c.rolls-DataMax n property range)

pub of_class-data_exact : (n : ℕ) (property : List ℕ) (range : Option Range) → of_class (c.DataExact n property range) ≡ named kinds.DataProperty property ++ of_optional of_range range
of_class-data_exact n property range = of_class-at _ _ (c.rolls-DataExact n property range)
