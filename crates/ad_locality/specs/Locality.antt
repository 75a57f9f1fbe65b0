-- Syntactic locality: a table by the form of an expression and of an axiom. Names that are neither built in
-- nor seen are outside: on the bottom side they are read as empty, on the top side as everything. Individuals
-- are never replaced. The table's three columns, "surely empty", "surely everything" and "surely not empty", are
-- one value; the third is read of class expressions and data ranges alone.
use Rattle.std.specs.Prelude.{ℕ, Bool, true, false, cond, ◌&&◌, ◌||◌, List, [], ◌∷◌, Option, None, Some, nat_eq, length, map}
use Rattle.std.specs.List.{list_any, list_all}
use Rattle.ad_base.specs.declared.limits.Side.{Side}
use Rattle.ad_base.specs.declared.limits.Side.TheVariants as sides
use Rattle.ad_entity.specs.Entities.{entity}
use Rattle.ad_locality.specs.Columns.{builtin, nothing, everything, neither, inhabited}
use Rattle.ad_locality.specs.declared.surely.Surely.{Surely}
use Rattle.ad_entity.specs.declared.entities.EntityKind.{EntityKind}
use Rattle.ad_entity.specs.declared.entities.EntityKind.TheVariants as kinds
use Rattle.ad_entity.specs.declared.entities.Entity.{Entity}
use Rattle.ad_tree.specs.declared.names.ObjProp.{ObjProp}
use Rattle.ad_tree.specs.declared.names.ObjProp.TheVariants as props
use Rattle.ad_tree.specs.declared.ranges.Range.{Range}
use Rattle.ad_tree.specs.declared.ranges.Range.TheOpen.{Range-F}
use Rattle.ad_tree.specs.declared.ranges.Range.TheFolds.{fold-Range}
use Rattle.ad_tree.specs.declared.classes.Class.{Class}
use Rattle.ad_tree.specs.declared.classes.Class.TheOpen.{Class-F}
use Rattle.ad_tree.specs.declared.classes.Class.TheFolds.{fold-Class}
use Rattle.ad_tree.specs.declared.axioms.Axiom.{Axiom}
use Rattle.ad_tree.specs.declared.axioms.Axiom.TheVariants as axioms

-- what is sure of a name outside
abbrev pub outside : Side → Surely
outside sides.Bottom = nothing
outside sides.Top = everything

-- a built-in name is what it is; of a seen name nothing is sure
abbrev pub unless_builtin : Option Surely → Surely → Surely
unless_builtin (Some known) other = known
unless_builtin None other = other

abbrev pub name_surely : Side → (Entity → Bool) → EntityKind → List ℕ → Surely
name_surely side seen kind name = unless_builtin (builtin kind name) (cond (seen (entity kind name)) neither (outside side))

-- an inverse is as its property
abbrev pub property_surely : Side → (Entity → Bool) → ObjProp → Surely
property_surely side seen (props.Named p) = name_surely side seen kinds.ObjectProperty p
property_surely side seen (props.Inverse p) = name_surely side seen kinds.ObjectProperty p

-- tests of several operands
abbrev pub all_empty : List Surely → Bool
all_empty operands = list_all (λ c. c.empty) operands

abbrev pub all_whole : List Surely → Bool
all_whole operands = list_all (λ c. c.whole) operands

-- one isn't empty and all others, by position, are everything
abbrev pub one_is_nonempty : List Surely → Bool
one_is_nonempty [] = false
one_is_nonempty (c ∷ cs) = (c.nonempty && all_whole cs) || (c.whole && one_is_nonempty cs)

-- intersection: some operand is empty; all are everything; one isn't empty and all others are everything
abbrev pub intersection : List Surely → Surely
intersection operands = record { empty = list_any (λ c. c.empty) operands; whole = all_whole operands; nonempty = one_is_nonempty operands }

-- union: all operands are empty; some is everything; some isn't empty
abbrev pub union : List Surely → Surely
union operands = record { empty = all_empty operands; whole = list_any (λ c. c.whole) operands; nonempty = list_any (λ c. c.nonempty) operands }

-- complement: the first two columns change places; it isn't empty where the operand is
abbrev pub complement : Surely → Surely
complement c = record { empty = c.whole; whole = c.empty; nonempty = c.empty }

-- an enumeration with a member isn't empty
abbrev pub enumeration : {X : Type 0} → List X → Surely
enumeration [] = neither
enumeration (x ∷ xs) = inhabited

-- some R C: where R relates all to all, a member of C is enough for everything
abbrev pub some_of : Surely → Surely → Surely
some_of r c = let all = r.whole && c.nonempty in record { empty = r.empty || c.empty; whole = all; nonempty = all }

-- all R C
abbrev pub all_of : Surely → Surely → Surely
all_of r c = let all = r.empty || c.whole in record { empty = r.whole && c.empty; whole = all; nonempty = all }

-- min n R C: min 0 is everything
abbrev pub at_least : ℕ → Surely → Surely → Surely
at_least n r c = cond (nat_eq n 0) everything (let all = nat_eq n 1 && (r.whole && c.nonempty) in record { empty = r.empty || c.empty; whole = all; nonempty = all })

-- max n R C
abbrev pub at_most : ℕ → Surely → Surely → Surely
at_most n r c = let all = r.empty || c.empty in record { empty = nat_eq n 0 && (r.whole && c.nonempty); whole = all; nonempty = all }

-- exact n R C: exact 0 is as max 0
abbrev pub exactly : ℕ → Surely → Surely → Surely
exactly n r c = cond (nat_eq n 0) (at_most 0 r c) (record { empty = r.empty || c.empty; whole = false; nonempty = false })

-- a cardinality without a filler counts everything
abbrev pub filler : Option Surely → Surely
filler None = everything
filler (Some c) = c

abbrev pub range_step : Side → (Entity → Bool) → Range-F Surely → Surely
range_step side seen (Range-F.Named datatype) = name_surely side seen kinds.Datatype datatype
range_step side seen (Range-F.And operands) = intersection operands
range_step side seen (Range-F.Or operands) = union operands
range_step side seen (Range-F.Not operand) = complement operand
range_step side seen (Range-F.OneOf values) = enumeration values
range_step side seen (Range-F.Restriction datatype facets) = record { empty = (name_surely side seen kinds.Datatype datatype).empty; whole = false; nonempty = false }

unfoldable pub range_surely : Side → (Entity → Bool) → Range → Surely
range_surely side seen = fold-Range Surely (range_step side seen)

abbrev pub optional_range : Side → (Entity → Bool) → Option Range → Surely
optional_range side seen None = everything
optional_range side seen (Some range) = range_surely side seen range

abbrev pub class_step : Side → (Entity → Bool) → Class-F Surely → Surely
class_step side seen (Class-F.Named class) = name_surely side seen kinds.Class class
class_step side seen (Class-F.And operands) = intersection operands
class_step side seen (Class-F.Or operands) = union operands
class_step side seen (Class-F.Not operand) = complement operand
class_step side seen (Class-F.OneOf individuals) = enumeration individuals
class_step side seen (Class-F.ObjSome property c) = some_of (property_surely side seen property) c
class_step side seen (Class-F.ObjAll property c) = all_of (property_surely side seen property) c
class_step side seen (Class-F.ObjValue property individual) = property_surely side seen property
class_step side seen (Class-F.ObjSelf property) = property_surely side seen property
class_step side seen (Class-F.ObjMin n property c) = at_least n (property_surely side seen property) (filler c)
class_step side seen (Class-F.ObjMax n property c) = at_most n (property_surely side seen property) (filler c)
class_step side seen (Class-F.ObjExact n property c) = exactly n (property_surely side seen property) (filler c)
class_step side seen (Class-F.DataSome property range) = some_of (name_surely side seen kinds.DataProperty property) (range_surely side seen range)
class_step side seen (Class-F.DataAll property range) = all_of (name_surely side seen kinds.DataProperty property) (range_surely side seen range)
class_step side seen (Class-F.DataValue property value) = name_surely side seen kinds.DataProperty property
class_step side seen (Class-F.DataMin n property range) = at_least n (name_surely side seen kinds.DataProperty property) (optional_range side seen range)
class_step side seen (Class-F.DataMax n property range) = at_most n (name_surely side seen kinds.DataProperty property) (optional_range side seen range)
class_step side seen (Class-F.DataExact n property range) = exactly n (name_surely side seen kinds.DataProperty property) (optional_range side seen range)

unfoldable pub class_surely : Side → (Entity → Bool) → Class → Surely
class_surely side seen = fold-Class Surely (class_step side seen)

-- Tests of the operands of an axiom.

-- equivalent: all are empty, or all are everything, or there is one
abbrev pub are_equivalent : List Surely → Bool
are_equivalent operands = (all_empty operands || all_whole operands) || nat_eq (length operands) 1

-- disjoint: at most one, by position, isn't empty
abbrev pub are_disjoint : List Surely → Bool
are_disjoint [] = true
are_disjoint (c ∷ cs) = cond c.empty (are_disjoint cs) (all_empty cs)

-- one is everything and all others, by position, are empty
abbrev pub one_is_whole : List Surely → Bool
one_is_whole [] = false
one_is_whole (c ∷ cs) = (c.whole && all_empty cs) || (c.empty && one_is_whole cs)

abbrev pub both_or_neither : Surely → Surely → Bool
both_or_neither a b = (a.empty && b.empty) || (a.whole && b.whole)

-- The axiom is local for the seen names, on a side. Of a carried axiom nothing is asked.
abbrev pub local : Side → (Entity → Bool) → Axiom → Bool
local side seen (axioms.SubClassOf sub super) = (class_surely side seen sub).empty || (class_surely side seen super).whole
local side seen (axioms.EquivalentClasses classes) = are_equivalent (map (class_surely side seen) classes)
local side seen (axioms.DisjointClasses classes) = are_disjoint (map (class_surely side seen) classes)
local side seen (axioms.DisjointUnion class parts) = let whole = name_surely side seen kinds.Class class in let cs = map (class_surely side seen) parts in (whole.empty && all_empty cs) || (whole.whole && one_is_whole cs)
local side seen (axioms.SubObjectPropertyOf sub super) = (property_surely side seen sub).empty || (property_surely side seen super).whole
local side seen (axioms.SubObjectPropertyChainOf chain super) = list_any (λ r. (property_surely side seen r).empty) chain || (property_surely side seen super).whole
local side seen (axioms.EquivalentObjectProperties properties) = are_equivalent (map (property_surely side seen) properties)
local side seen (axioms.DisjointObjectProperties properties) = are_disjoint (map (property_surely side seen) properties)
local side seen (axioms.InverseObjectProperties first second) = both_or_neither (property_surely side seen first) (property_surely side seen second)
local side seen (axioms.ObjectPropertyDomain property class) = (property_surely side seen property).empty || (class_surely side seen class).whole
local side seen (axioms.ObjectPropertyRange property class) = (property_surely side seen property).empty || (class_surely side seen class).whole
local side seen (axioms.FunctionalObjectProperty property) = (property_surely side seen property).empty
local side seen (axioms.InverseFunctionalObjectProperty property) = (property_surely side seen property).empty
local side seen (axioms.ReflexiveObjectProperty property) = (property_surely side seen property).whole
local side seen (axioms.IrreflexiveObjectProperty property) = (property_surely side seen property).empty
local side seen (axioms.SymmetricObjectProperty property) = (property_surely side seen property).empty || (property_surely side seen property).whole
local side seen (axioms.AsymmetricObjectProperty property) = (property_surely side seen property).empty
local side seen (axioms.TransitiveObjectProperty property) = (property_surely side seen property).empty || (property_surely side seen property).whole
local side seen (axioms.SubDataPropertyOf sub super) = (name_surely side seen kinds.DataProperty sub).empty || (name_surely side seen kinds.DataProperty super).whole
local side seen (axioms.EquivalentDataProperties properties) = are_equivalent (map (name_surely side seen kinds.DataProperty) properties)
local side seen (axioms.DisjointDataProperties properties) = are_disjoint (map (name_surely side seen kinds.DataProperty) properties)
local side seen (axioms.DataPropertyDomain property class) = (name_surely side seen kinds.DataProperty property).empty || (class_surely side seen class).whole
local side seen (axioms.DataPropertyRange property range) = (name_surely side seen kinds.DataProperty property).empty || (range_surely side seen range).whole
local side seen (axioms.FunctionalDataProperty property) = (name_surely side seen kinds.DataProperty property).empty
local side seen (axioms.DatatypeDefinition datatype range) = both_or_neither (name_surely side seen kinds.Datatype datatype) (range_surely side seen range)
local side seen (axioms.HasKey class objects values) = (class_surely side seen class).empty || (list_any (λ r. (property_surely side seen r).empty) objects || list_any (λ r. (name_surely side seen kinds.DataProperty r).empty) values)
local side seen (axioms.SameIndividual individuals) = nat_eq (length individuals) 1
local side seen (axioms.DifferentIndividuals individuals) = nat_eq (length individuals) 1
local side seen (axioms.ClassAssertion class individual) = (class_surely side seen class).whole
local side seen (axioms.ObjectPropertyAssertion property source target) = (property_surely side seen property).whole
local side seen (axioms.NegativeObjectPropertyAssertion property source target) = (property_surely side seen property).empty
local side seen (axioms.DataPropertyAssertion property source target) = (name_surely side seen kinds.DataProperty property).whole
local side seen (axioms.NegativeDataPropertyAssertion property source target) = (name_surely side seen kinds.DataProperty property).empty
local side seen (axioms.Declaration declared) = true
local side seen (axioms.AnnotationAssertion property subject value) = true
local side seen (axioms.SubAnnotationPropertyOf sub super) = true
local side seen (axioms.AnnotationPropertyDomain property domain) = true
local side seen (axioms.AnnotationPropertyRange property range) = true
