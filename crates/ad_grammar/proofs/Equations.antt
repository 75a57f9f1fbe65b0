-- How data ranges, class expressions and annotations are spelled, at each variant.
use Rattle.std.proofs.Common.{◌≡◌, ℕ, Bool, List, [], ◌∷◌, map, Option, None, Some, refl, sym, ◌∙◌, ap, subst}
use Rattle.ad_write.specs.Keywords as kw
use Rattle.ad_tree.specs.declared.names.ObjProp.{ObjProp}
use Rattle.ad_tree.specs.declared.names.Individual.{Individual}
use Rattle.ad_tree.specs.declared.literals.Literal.{Literal}
use Rattle.ad_tree.specs.declared.literals.Facet.{Facet}
use Rattle.ad_tree.specs.declared.ranges.Range.{Range}
use Rattle.ad_tree.specs.declared.ranges.Range.TheVariants as r
use Rattle.ad_tree.specs.declared.ranges.Range.TheOpen.{Range-F}
use Rattle.ad_tree.specs.declared.ranges.Range.TheViews.{roll-Range}
use Rattle.ad_tree.specs.declared.ranges.Range.TheFolds.{rec-Range, rec-roll-Range, map-Range}
use Rattle.ad_tree.specs.declared.classes.Class.{Class}
use Rattle.ad_tree.specs.declared.classes.Class.TheVariants as c
use Rattle.ad_tree.specs.declared.classes.Class.TheOpen.{Class-F}
use Rattle.ad_tree.specs.declared.classes.Class.TheViews.{roll-Class}
use Rattle.ad_tree.specs.declared.classes.Class.TheFolds.{rec-Class, rec-roll-Class, map-Class}
use Rattle.ad_tree.specs.declared.notes.Value.{Value}
use Rattle.ad_tree.specs.declared.notes.Annotation.{Annotation}
use Rattle.ad_tree.specs.declared.notes.Annotation.TheOpen.{Annotation-F}
use Rattle.ad_tree.specs.declared.notes.Annotation.TheViews.{roll-Annotation}
use Rattle.ad_tree.specs.declared.notes.Annotation.TheFolds.{rec-roll-Annotation, map-Annotation}
use Rattle.ad_grammar.specs.Shapes.{Text, Then, Compound, Many0, Many1, Optional}
use Rattle.ad_grammar.specs.Names.{Words, IsName, IsNumber, SpellsProperty, SpellsIndividual, SpellsLiteral, SpellsFacet, SpellsValue}
use Rattle.ad_grammar.specs.Phrases.{SpellsRange, range_step, SpellsClass, class_step, Extra, SpellsAnnotation, annotation_step}

-- a fact on texts, read at an equal one
pub as_spelled : {P Q : Text → Type 0} (ts : Text) → P ≡ Q → P ts → Q ts
as_spelled {P} {Q} ts e h = subst (λ (R : Text → Type 0). R ts) e h

many0_map : {X Y : Type 0} (v : X → Y) (k : Y → Text → Type 0) (xs : List X) → Many0 (λ x. k (v x)) xs ≡ Many0 k (map v xs)
many0_map v k [] = refl
many0_map v k (x ∷ xs) = ap (Then (k (v x))) (many0_map v k xs)

many1_map : {X Y : Type 0} (v : X → Y) (k : Y → Text → Type 0) (xs : List X) → Many1 (λ x. k (v x)) xs ≡ Many1 k (map v xs)
many1_map v k [] = refl
many1_map v k (x ∷ xs) = ap (Then (k (v x))) (many0_map v k xs)

range_natural : (words : Words) (X : Type 0) (v : X → Range) (k : Range → Text → Type 0) (x : Range-F X) → range_step words X v (λ p. k (v p)) x ≡ range_step words Range (λ y. y) k (map-Range X Range v x)
range_natural words X v k (Range-F.Named datatype) = refl
range_natural words X v k (Range-F.And operands) = ap (Compound kw.DataIntersectionOf) (many1_map v k operands)
range_natural words X v k (Range-F.Or operands) = ap (Compound kw.DataUnionOf) (many1_map v k operands)
range_natural words X v k (Range-F.Not operand) = refl
range_natural words X v k (Range-F.OneOf values) = refl
range_natural words X v k (Range-F.Restriction datatype facets) = refl

range_at : (words : Words) (x : Range) (y : Range-F Range) → roll-Range y ≡ x → SpellsRange words x ≡ range_step words Range (λ z. z) (SpellsRange words) y
unfolding SpellsRange
range_at words x y e = ap (rec-Range (Text → Type 0) (range_step words)) (sym e) ∙ rec-roll-Range (Text → Type 0) (range_step words) (range_natural words) y

pub spells_range-named : (words : Words) (datatype : List ℕ) → SpellsRange words (r.Named datatype) ≡ IsName words datatype
spells_range-named words datatype = range_at words _ _ (r.rolls-Named datatype)

pub spells_range-and : (words : Words) (operands : List Range) → SpellsRange words (r.And operands) ≡ Compound kw.DataIntersectionOf (Many1 (SpellsRange words) operands)
spells_range-and words operands = range_at words _ _ (r.rolls-And operands)

pub spells_range-or : (words : Words) (operands : List Range) → SpellsRange words (r.Or operands) ≡ Compound kw.DataUnionOf (Many1 (SpellsRange words) operands)
spells_range-or words operands = range_at words _ _ (r.rolls-Or operands)

pub spells_range-not : (words : Words) (operand : Range) → SpellsRange words (r.Not operand) ≡ Compound kw.DataComplementOf (SpellsRange words operand)
spells_range-not words operand = range_at words _ _ (r.rolls-Not operand)

pub spells_range-one_of : (words : Words) (values : List Literal) → SpellsRange words (r.OneOf values) ≡ Compound kw.DataOneOf (Many1 (SpellsLiteral words) values)
spells_range-one_of words values = range_at words _ _ (r.rolls-OneOf values)

pub spells_range-restriction : (words : Words) (datatype : List ℕ) (facets : List Facet) → SpellsRange words (r.Restriction datatype facets) ≡ Compound kw.DatatypeRestriction (Then (IsName words datatype) (Many1 (SpellsFacet words) facets))
spells_range-restriction words datatype facets = range_at words _ _ (r.rolls-Restriction datatype facets)

class_natural : (w : Bool) (words : Words) (X : Type 0) (v : X → Class) (k : Class → Text → Type 0) (x : Class-F X) → class_step w words X v (λ p. k (v p)) x ≡ class_step w words Class (λ y. y) k (map-Class X Class v x)
class_natural w words X v k (Class-F.Named class) = refl
class_natural w words X v k (Class-F.And operands) = ap (Compound kw.ObjectIntersectionOf) (many1_map v k operands)
class_natural w words X v k (Class-F.Or operands) = ap (Compound kw.ObjectUnionOf) (many1_map v k operands)
class_natural w words X v k (Class-F.Not operand) = refl
class_natural w words X v k (Class-F.OneOf members) = refl
class_natural w words X v k (Class-F.ObjSome property filler) = refl
class_natural w words X v k (Class-F.ObjAll property filler) = refl
class_natural w words X v k (Class-F.ObjValue property individual) = refl
class_natural w words X v k (Class-F.ObjSelf property) = refl
class_natural w words X v k (Class-F.ObjMin number property None) = refl
class_natural w words X v k (Class-F.ObjMin number property (Some filler)) = refl
class_natural w words X v k (Class-F.ObjMax number property None) = refl
class_natural w words X v k (Class-F.ObjMax number property (Some filler)) = refl
class_natural w words X v k (Class-F.ObjExact number property None) = refl
class_natural w words X v k (Class-F.ObjExact number property (Some filler)) = refl
class_natural w words X v k (Class-F.DataSome property filler) = refl
class_natural w words X v k (Class-F.DataAll property filler) = refl
class_natural w words X v k (Class-F.DataValue property value) = refl
class_natural w words X v k (Class-F.DataMin number property filler) = refl
class_natural w words X v k (Class-F.DataMax number property filler) = refl
class_natural w words X v k (Class-F.DataExact number property filler) = refl

class_at : (w : Bool) (words : Words) (x : Class) (y : Class-F Class) → roll-Class y ≡ x → SpellsClass w words x ≡ class_step w words Class (λ z. z) (SpellsClass w words) y
unfolding SpellsClass
class_at w words x y e = ap (rec-Class (Text → Type 0) (class_step w words)) (sym e) ∙ rec-roll-Class (Text → Type 0) (class_step w words) (class_natural w words) y

pub spells_class-named : (w : Bool) (words : Words) (class : List ℕ) → SpellsClass w words (c.Named class) ≡ IsName words class
spells_class-named w words class = class_at w words _ _ (c.rolls-Named class)

pub spells_class-and : (w : Bool) (words : Words) (operands : List Class) → SpellsClass w words (c.And operands) ≡ Compound kw.ObjectIntersectionOf (Many1 (SpellsClass w words) operands)
spells_class-and w words operands = class_at w words _ _ (c.rolls-And operands)

pub spells_class-or : (w : Bool) (words : Words) (operands : List Class) → SpellsClass w words (c.Or operands) ≡ Compound kw.ObjectUnionOf (Many1 (SpellsClass w words) operands)
spells_class-or w words operands = class_at w words _ _ (c.rolls-Or operands)

pub spells_class-not : (w : Bool) (words : Words) (operand : Class) → SpellsClass w words (c.Not operand) ≡ Compound kw.ObjectComplementOf (SpellsClass w words operand)
spells_class-not w words operand = class_at w words _ _ (c.rolls-Not operand)

pub spells_class-one_of : (w : Bool) (words : Words) (members : List Individual) → SpellsClass w words (c.OneOf members) ≡ Compound kw.ObjectOneOf (Many1 (SpellsIndividual words) members)
spells_class-one_of w words members = class_at w words _ _ (c.rolls-OneOf members)

pub spells_class-obj_some : (w : Bool) (words : Words) (property : ObjProp) (filler : Class) → SpellsClass w words (c.ObjSome property filler) ≡ Compound kw.ObjectSomeValuesFrom (Then (SpellsProperty words property) (SpellsClass w words filler))
spells_class-obj_some w words property filler = class_at w words _ _ (c.rolls-ObjSome property filler)

pub spells_class-obj_all : (w : Bool) (words : Words) (property : ObjProp) (filler : Class) → SpellsClass w words (c.ObjAll property filler) ≡ Compound kw.ObjectAllValuesFrom (Then (SpellsProperty words property) (SpellsClass w words filler))
spells_class-obj_all w words property filler = class_at w words _ _ (c.rolls-ObjAll property filler)

pub spells_class-obj_value : (w : Bool) (words : Words) (property : ObjProp) (individual : Individual) → SpellsClass w words (c.ObjValue property individual) ≡ Compound kw.ObjectHasValue (Then (SpellsProperty words property) (SpellsIndividual words individual))
spells_class-obj_value w words property individual = class_at w words _ _ (c.rolls-ObjValue property individual)

pub spells_class-obj_self : (w : Bool) (words : Words) (property : ObjProp) → SpellsClass w words (c.ObjSelf property) ≡ Compound kw.ObjectHasSelf (SpellsProperty words property)
spells_class-obj_self w words property = class_at w words _ _ (c.rolls-ObjSelf property)

pub spells_class-obj_min : (w : Bool) (words : Words) (number : ℕ) (property : ObjProp) (filler : Option Class) → SpellsClass w words (c.ObjMin number property filler) ≡ Compound kw.ObjectMinCardinality (Then (IsNumber number) (Then (SpellsProperty words property) (Optional (SpellsClass w words) filler)))
spells_class-obj_min w words number property None = class_at w words _ _ (c.rolls-ObjMin number property None)
spells_class-obj_min w words number property (Some filler) = class_at w words _ _ (c.rolls-ObjMin number property (Some filler))

pub spells_class-obj_max : (w : Bool) (words : Words) (number : ℕ) (property : ObjProp) (filler : Option Class) → SpellsClass w words (c.ObjMax number property filler) ≡ Compound kw.ObjectMaxCardinality (Then (IsNumber number) (Then (SpellsProperty words property) (Optional (SpellsClass w words) filler)))
spells_class-obj_max w words number property None = class_at w words _ _ (c.rolls-ObjMax number property None)
spells_class-obj_max w words number property (Some filler) = class_at w words _ _ (c.rolls-ObjMax number property (Some filler))

pub spells_class-obj_exact : (w : Bool) (words : Words) (number : ℕ) (property : ObjProp) (filler : Option Class) → SpellsClass w words (c.ObjExact number property filler) ≡ Compound kw.ObjectExactCardinality (Then (IsNumber number) (Then (SpellsProperty words property) (Optional (SpellsClass w words) filler)))
spells_class-obj_exact w words number property None = class_at w words _ _ (c.rolls-ObjExact number property None)
spells_class-obj_exact w words number property (Some filler) = class_at w words _ _ (c.rolls-ObjExact number property (Some filler))

pub spells_class-data_some : (w : Bool) (words : Words) (property : List ℕ) (filler : Range) → SpellsClass w words (c.DataSome property filler) ≡ Compound kw.DataSomeValuesFrom (Then (IsName words property) (Then (Extra w words) (SpellsRange words filler)))
spells_class-data_some w words property filler = class_at w words _ _ (c.rolls-DataSome property filler)

pub spells_class-data_all : (w : Bool) (words : Words) (property : List ℕ) (filler : Range) → SpellsClass w words (c.DataAll property filler) ≡ Compound kw.DataAllValuesFrom (Then (IsName words property) (Then (Extra w words) (SpellsRange words filler)))
spells_class-data_all w words property filler = class_at w words _ _ (c.rolls-DataAll property filler)

pub spells_class-data_value : (w : Bool) (words : Words) (property : List ℕ) (value : Literal) → SpellsClass w words (c.DataValue property value) ≡ Compound kw.DataHasValue (Then (IsName words property) (SpellsLiteral words value))
spells_class-data_value w words property value = class_at w words _ _ (c.rolls-DataValue property value)

pub spells_class-data_min : (w : Bool) (words : Words) (number : ℕ) (property : List ℕ) (filler : Option Range) → SpellsClass w words (c.DataMin number property filler) ≡ Compound kw.DataMinCardinality (Then (IsNumber number) (Then (IsName words property) (Optional (SpellsRange words) filler)))
spells_class-data_min w words number property filler = class_at w words _ _ (c.rolls-DataMin number property filler)

pub spells_class-data_max : (w : Bool) (words : Words) (number : ℕ) (property : List ℕ) (filler : Option Range) → SpellsClass w words (c.DataMax number property filler) ≡ Compound kw.DataMaxCardinality (Then (IsNumber number) (Then (IsName words property) (Optional (SpellsRange words) filler)))
spells_class-data_max w words number property filler = class_at w words _ _ (c.rolls-DataMax number property filler)

pub spells_class-data_exact : (w : Bool) (words : Words) (number : ℕ) (property : List ℕ) (filler : Option Range) → SpellsClass w words (c.DataExact number property filler) ≡ Compound kw.DataExactCardinality (Then (IsNumber number) (Then (IsName words property) (Optional (SpellsRange words) filler)))
spells_class-data_exact w words number property filler = class_at w words _ _ (c.rolls-DataExact number property filler)

annotation_natural : (words : Words) (X : Type 0) (v : X → Annotation) (k : Annotation → Text → Type 0) (x : Annotation-F X) → annotation_step words X v (λ p. k (v p)) x ≡ annotation_step words Annotation (λ y. y) k (map-Annotation X Annotation v x)
annotation_natural words X v k x = ap (λ P. Compound kw.Annotation (Then P (Then (IsName words x.property) (SpellsValue words x.value)))) (many0_map v k x.notes)

pub spells_annotation : (words : Words) (notes : List Annotation) (property : List ℕ) (value : Value) → SpellsAnnotation words (roll-Annotation (record { notes = notes; property = property; value = value })) ≡ Compound kw.Annotation (Then (Many0 (SpellsAnnotation words) notes) (Then (IsName words property) (SpellsValue words value)))
unfolding SpellsAnnotation
spells_annotation words notes property value = rec-roll-Annotation (Text → Type 0) (annotation_step words) (annotation_natural words) (record { notes = notes; property = property; value = value })
