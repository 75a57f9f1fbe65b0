-- The canonical texts of data ranges, class expressions and annotations, at each variant.
use Rattle.std.proofs.Common.{◌≡◌, ℕ, List, [], ◌∷◌, ◌++◌, map, decimal, Option, None, Some, sym, ◌∙◌, ap}
use Rattle.std.specs.Option.{option_map, option_to_list}
use Rattle.ad_write.specs.Keywords as kw
use Rattle.ad_write.specs.Canonical.{compound, canon_iri, canon_literal, canon_property, canon_individual, canon_facet, canon_range, range_step, canon_optional, canon_class, class_step, canon_value, canon_annotation, annotation_step}
use Rattle.ad_tree.specs.declared.names.ObjProp.{ObjProp}
use Rattle.ad_tree.specs.declared.names.Individual.{Individual}
use Rattle.ad_tree.specs.declared.literals.Literal.{Literal}
use Rattle.ad_tree.specs.declared.literals.Facet.{Facet}
use Rattle.ad_tree.specs.declared.ranges.Range.{Range}
use Rattle.ad_tree.specs.declared.ranges.Range.TheVariants as r
use Rattle.ad_tree.specs.declared.ranges.Range.TheOpen.{Range-F}
use Rattle.ad_tree.specs.declared.ranges.Range.TheViews.{roll-Range}
use Rattle.ad_tree.specs.declared.ranges.Range.TheFolds.{fold-Range, map-Range, fold-roll-Range}
use Rattle.ad_tree.specs.declared.classes.Class.{Class}
use Rattle.ad_tree.specs.declared.classes.Class.TheVariants as c
use Rattle.ad_tree.specs.declared.classes.Class.TheOpen.{Class-F}
use Rattle.ad_tree.specs.declared.classes.Class.TheViews.{roll-Class}
use Rattle.ad_tree.specs.declared.classes.Class.TheFolds.{fold-Class, map-Class, fold-roll-Class}
use Rattle.ad_tree.specs.declared.notes.Annotation.{Annotation}
use Rattle.ad_tree.specs.declared.notes.Annotation.TheViews.{out-Annotation}
use Rattle.ad_tree.specs.declared.notes.Annotation.TheFolds.{fold_out-Annotation}

pub canon_annotation-out : (a : Annotation) → canon_annotation a ≡ compound kw.Annotation (map canon_annotation (out-Annotation a).notes ++ canon_iri (out-Annotation a).property ∷ canon_value (out-Annotation a).value ∷ [])
unfolding canon_annotation
canon_annotation-out = fold_out-Annotation (List ℕ) annotation_step

canon_range-at : (x : Range) (y : Range-F Range) → roll-Range y ≡ x → canon_range x ≡ range_step (map-Range Range (List ℕ) canon_range y)
unfolding canon_range
canon_range-at x y e = ap (fold-Range (List ℕ) range_step) (sym e) ∙ fold-roll-Range (List ℕ) range_step y

pub canon_range-named : (datatype : List ℕ) → canon_range (r.Named datatype) ≡ canon_iri datatype
canon_range-named datatype = canon_range-at _ _ (r.rolls-Named datatype)

pub canon_range-intersection : (operands : List Range) → canon_range (r.And operands) ≡ compound kw.DataIntersectionOf (map canon_range operands)
canon_range-intersection operands = canon_range-at _ _ (r.rolls-And operands)

pub canon_range-union : (operands : List Range) → canon_range (r.Or operands) ≡ compound kw.DataUnionOf (map canon_range operands)
canon_range-union operands = canon_range-at _ _ (r.rolls-Or operands)

pub canon_range-complement : (operand : Range) → canon_range (r.Not operand) ≡ compound kw.DataComplementOf (canon_range operand ∷ [])
canon_range-complement operand = canon_range-at _ _ (r.rolls-Not operand)

pub canon_range-one_of : (values : List Literal) → canon_range (r.OneOf values) ≡ compound kw.DataOneOf (map canon_literal values)
canon_range-one_of values = canon_range-at _ _ (r.rolls-OneOf values)

pub canon_range-restriction : (datatype : List ℕ) (facets : List Facet) → canon_range (r.Restriction datatype facets) ≡ compound kw.DatatypeRestriction (canon_iri datatype ∷ map canon_facet facets)
canon_range-restriction datatype facets = canon_range-at _ _ (r.rolls-Restriction datatype facets)

canon_class-at : (x : Class) (y : Class-F Class) → roll-Class y ≡ x → canon_class x ≡ class_step (map-Class Class (List ℕ) canon_class y)
unfolding canon_class
canon_class-at x y e = ap (fold-Class (List ℕ) class_step) (sym e) ∙ fold-roll-Class (List ℕ) class_step y

pub canon_class-named : (class : List ℕ) → canon_class (c.Named class) ≡ canon_iri class
canon_class-named class = canon_class-at _ _ (c.rolls-Named class)

pub canon_class-intersection : (operands : List Class) → canon_class (c.And operands) ≡ compound kw.ObjectIntersectionOf (map canon_class operands)
canon_class-intersection operands = canon_class-at _ _ (c.rolls-And operands)

pub canon_class-union : (operands : List Class) → canon_class (c.Or operands) ≡ compound kw.ObjectUnionOf (map canon_class operands)
canon_class-union operands = canon_class-at _ _ (c.rolls-Or operands)

pub canon_class-complement : (operand : Class) → canon_class (c.Not operand) ≡ compound kw.ObjectComplementOf (canon_class operand ∷ [])
canon_class-complement operand = canon_class-at _ _ (c.rolls-Not operand)

pub canon_class-one_of : (members : List Individual) → canon_class (c.OneOf members) ≡ compound kw.ObjectOneOf (map canon_individual members)
canon_class-one_of members = canon_class-at _ _ (c.rolls-OneOf members)

pub canon_class-some : (p : ObjProp) (filler : Class) → canon_class (c.ObjSome p filler) ≡ compound kw.ObjectSomeValuesFrom (canon_property p ∷ canon_class filler ∷ [])
canon_class-some p filler = canon_class-at _ _ (c.rolls-ObjSome p filler)

pub canon_class-all : (p : ObjProp) (filler : Class) → canon_class (c.ObjAll p filler) ≡ compound kw.ObjectAllValuesFrom (canon_property p ∷ canon_class filler ∷ [])
canon_class-all p filler = canon_class-at _ _ (c.rolls-ObjAll p filler)

pub canon_class-value : (p : ObjProp) (i : Individual) → canon_class (c.ObjValue p i) ≡ compound kw.ObjectHasValue (canon_property p ∷ canon_individual i ∷ [])
canon_class-value p i = canon_class-at _ _ (c.rolls-ObjValue p i)

pub canon_class-self : (p : ObjProp) → canon_class (c.ObjSelf p) ≡ compound kw.ObjectHasSelf (canon_property p ∷ [])
canon_class-self p = canon_class-at _ _ (c.rolls-ObjSelf p)

pub canon_class-min : (n : ℕ) (p : ObjProp) (filler : Option Class) → canon_class (c.ObjMin n p filler) ≡ compound kw.ObjectMinCardinality (decimal n ∷ canon_property p ∷ option_to_list (option_map canon_class filler))
canon_class-min n p None = canon_class-at _ _ (c.rolls-ObjMin n p None)
canon_class-min n p (Some filler) = canon_class-at _ _ (c.rolls-ObjMin n p (Some filler))

pub canon_class-max : (n : ℕ) (p : ObjProp) (filler : Option Class) → canon_class (c.ObjMax n p filler) ≡ compound kw.ObjectMaxCardinality (decimal n ∷ canon_property p ∷ option_to_list (option_map canon_class filler))
canon_class-max n p None = canon_class-at _ _ (c.rolls-ObjMax n p None)
canon_class-max n p (Some filler) = canon_class-at _ _ (c.rolls-ObjMax n p (Some filler))

pub canon_class-exact : (n : ℕ) (p : ObjProp) (filler : Option Class) → canon_class (c.ObjExact n p filler) ≡ compound kw.ObjectExactCardinality (decimal n ∷ canon_property p ∷ option_to_list (option_map canon_class filler))
canon_class-exact n p None = canon_class-at _ _ (c.rolls-ObjExact n p None)
canon_class-exact n p (Some filler) = canon_class-at _ _ (c.rolls-ObjExact n p (Some filler))

pub canon_class-data_some : (p : List ℕ) (range : Range) → canon_class (c.DataSome p range) ≡ compound kw.DataSomeValuesFrom (canon_iri p ∷ canon_range range ∷ [])
canon_class-data_some p range = canon_class-at _ _ (c.rolls-DataSome p range)

pub canon_class-data_all : (p : List ℕ) (range : Range) → canon_class (c.DataAll p range) ≡ compound kw.DataAllValuesFrom (canon_iri p ∷ canon_range range ∷ [])
canon_class-data_all p range = canon_class-at _ _ (c.rolls-DataAll p range)

pub canon_class-data_value : (p : List ℕ) (value : Literal) → canon_class (c.DataValue p value) ≡ compound kw.DataHasValue (canon_iri p ∷ canon_literal value ∷ [])
canon_class-data_value p value = canon_class-at _ _ (c.rolls-DataValue p value)

pub canon_class-data_min : (n : ℕ) (p : List ℕ) (range : Option Range) → canon_class (c.DataMin n p range) ≡ compound kw.DataMinCardinality (decimal n ∷ canon_iri p ∷ canon_optional range)
canon_class-data_min n p range = canon_class-at _ _ (c.rolls-DataMin n p range)

pub canon_class-data_max : (n : ℕ) (p : List ℕ) (range : Option Range) → canon_class (c.DataMax n p range) ≡ compound kw.DataMaxCardinality (decimal n ∷ canon_iri p ∷ canon_optional range)
canon_class-data_max n p range = canon_class-at _ _ (c.rolls-DataMax n p range)

pub canon_class-data_exact : (n : ℕ) (p : List ℕ) (range : Option Range) → canon_class (c.DataExact n p range) ≡ compound kw.DataExactCardinality (decimal n ∷ canon_iri p ∷ canon_optional range)
canon_class-data_exact n p range = canon_class-at _ _ (c.rolls-DataExact n p range)
