-- Data ranges, class expressions and annotations, as tokens spell them. The flag w asks for the wide grammar, in
-- which a restriction on data may name more than one property; the tree keeps the first.
use Rattle.std.specs.Prelude.{◌≡◌, ℕ, Bool, true, false, List, []}
use Rattle.ad_write.specs.Keywords as kw
use Rattle.ad_tree.specs.declared.ranges.Range.{Range}
use Rattle.ad_tree.specs.declared.ranges.Range.TheOpen.{Range-F}
use Rattle.ad_tree.specs.declared.ranges.Range.TheFolds.{rec-Range}
use Rattle.ad_tree.specs.declared.classes.Class.{Class}
use Rattle.ad_tree.specs.declared.classes.Class.TheOpen.{Class-F}
use Rattle.ad_tree.specs.declared.classes.Class.TheFolds.{rec-Class}
use Rattle.ad_tree.specs.declared.notes.Annotation.{Annotation}
use Rattle.ad_tree.specs.declared.notes.Annotation.TheOpen.{Annotation-F}
use Rattle.ad_tree.specs.declared.notes.Annotation.TheFolds.{rec-Annotation}
use Rattle.ad_grammar.specs.Shapes.{Text, Then, Compound, Many0, Many1, Optional}
use Rattle.ad_grammar.specs.Names.{Words, IsName, IsNumber, SpellsProperty, SpellsIndividual, SpellsLiteral, SpellsFacet, SpellsValue}

-- one layer of a data range
abbrev pub range_step : Words → (X : Type 0) → (X → Range) → (X → Text → Type 0) → Range-F X → Text → Type 0
range_step words X v spells (Range-F.Named datatype) ts = IsName words datatype ts
range_step words X v spells (Range-F.And operands) ts = Compound kw.DataIntersectionOf (Many1 spells operands) ts
range_step words X v spells (Range-F.Or operands) ts = Compound kw.DataUnionOf (Many1 spells operands) ts
range_step words X v spells (Range-F.Not operand) ts = Compound kw.DataComplementOf (spells operand) ts
range_step words X v spells (Range-F.OneOf values) ts = Compound kw.DataOneOf (Many1 (SpellsLiteral words) values) ts
range_step words X v spells (Range-F.Restriction datatype facets) ts = Compound kw.DatatypeRestriction (Then (IsName words datatype) (Many1 (SpellsFacet words) facets)) ts

unfoldable pub SpellsRange : Words → Range → Text → Type 0
SpellsRange words = rec-Range (Text → Type 0) (range_step words)

-- the further properties of a restriction on data: none but in the wide grammar
abbrev pub Extra : Bool → Words → Text → Type 0
Extra true words ts = (names : List (List ℕ)) × Many0 (IsName words) names ts
Extra false words ts = ts ≡ []

-- one layer of a class expression
abbrev pub class_step : Bool → Words → (X : Type 0) → (X → Class) → (X → Text → Type 0) → Class-F X → Text → Type 0
class_step w words X v spells (Class-F.Named class) ts = IsName words class ts
class_step w words X v spells (Class-F.And operands) ts = Compound kw.ObjectIntersectionOf (Many1 spells operands) ts
class_step w words X v spells (Class-F.Or operands) ts = Compound kw.ObjectUnionOf (Many1 spells operands) ts
class_step w words X v spells (Class-F.Not operand) ts = Compound kw.ObjectComplementOf (spells operand) ts
class_step w words X v spells (Class-F.OneOf members) ts = Compound kw.ObjectOneOf (Many1 (SpellsIndividual words) members) ts
class_step w words X v spells (Class-F.ObjSome property filler) ts = Compound kw.ObjectSomeValuesFrom (Then (SpellsProperty words property) (spells filler)) ts
class_step w words X v spells (Class-F.ObjAll property filler) ts = Compound kw.ObjectAllValuesFrom (Then (SpellsProperty words property) (spells filler)) ts
class_step w words X v spells (Class-F.ObjValue property individual) ts = Compound kw.ObjectHasValue (Then (SpellsProperty words property) (SpellsIndividual words individual)) ts
class_step w words X v spells (Class-F.ObjSelf property) ts = Compound kw.ObjectHasSelf (SpellsProperty words property) ts
class_step w words X v spells (Class-F.ObjMin number property filler) ts = Compound kw.ObjectMinCardinality (Then (IsNumber number) (Then (SpellsProperty words property) (Optional spells filler))) ts
class_step w words X v spells (Class-F.ObjMax number property filler) ts = Compound kw.ObjectMaxCardinality (Then (IsNumber number) (Then (SpellsProperty words property) (Optional spells filler))) ts
class_step w words X v spells (Class-F.ObjExact number property filler) ts = Compound kw.ObjectExactCardinality (Then (IsNumber number) (Then (SpellsProperty words property) (Optional spells filler))) ts
class_step w words X v spells (Class-F.DataSome property filler) ts = Compound kw.DataSomeValuesFrom (Then (IsName words property) (Then (Extra w words) (SpellsRange words filler))) ts
class_step w words X v spells (Class-F.DataAll property filler) ts = Compound kw.DataAllValuesFrom (Then (IsName words property) (Then (Extra w words) (SpellsRange words filler))) ts
class_step w words X v spells (Class-F.DataValue property value) ts = Compound kw.DataHasValue (Then (IsName words property) (SpellsLiteral words value)) ts
class_step w words X v spells (Class-F.DataMin number property filler) ts = Compound kw.DataMinCardinality (Then (IsNumber number) (Then (IsName words property) (Optional (SpellsRange words) filler))) ts
class_step w words X v spells (Class-F.DataMax number property filler) ts = Compound kw.DataMaxCardinality (Then (IsNumber number) (Then (IsName words property) (Optional (SpellsRange words) filler))) ts
class_step w words X v spells (Class-F.DataExact number property filler) ts = Compound kw.DataExactCardinality (Then (IsNumber number) (Then (IsName words property) (Optional (SpellsRange words) filler))) ts

unfoldable pub SpellsClass : Bool → Words → Class → Text → Type 0
SpellsClass w words = rec-Class (Text → Type 0) (class_step w words)

-- one annotation, behind its own annotations
abbrev pub annotation_step : Words → (X : Type 0) → (X → Annotation) → (X → Text → Type 0) → Annotation-F X → Text → Type 0
annotation_step words X v spells a ts = Compound kw.Annotation (Then (Many0 spells a.notes) (Then (IsName words a.property) (SpellsValue words a.value))) ts

unfoldable pub SpellsAnnotation : Words → Annotation → Text → Type 0
SpellsAnnotation words = rec-Annotation (Text → Type 0) (annotation_step words)
