-- What holds of the codes of names by two numberings, with the entities that the names stand for, and goes over to codes
-- one after another, holds of the codes of axioms, with their signatures.
use Rattle.std.proofs.Common.{◌≡◌, ℕ, List, [], ◌∷◌, ◌++◌, length, map, Option, None, Some, IfSome, sym, subst, ap, refl, append-nil}
use Rattle.std.specs.List.{AllByRecursion, flat_map}
use Rattle.ad_locality.specs.Columns.{everything}
use Rattle.ad_locality.specs.Locality.{enumeration}
use Rattle.ad_locality.specs.Signature.{named, of_property, of_individual, of_literal, of_range, of_class, of_optional, occurrences}
use Rattle.ad_entity.specs.declared.entities.Entity.{Entity}
use Rattle.ad_entity.specs.declared.entities.EntityKind.{EntityKind}
use Rattle.ad_entity.specs.declared.entities.EntityKind.TheVariants as kinds
use Rattle.ad_tree.specs.declared.names.ObjProp.{ObjProp}
use Rattle.ad_tree.specs.declared.names.ObjProp.TheVariants as props
use Rattle.ad_tree.specs.declared.ranges.Range.{Range}
use Rattle.ad_tree.specs.declared.classes.Class.{Class}
use Rattle.ad_tree.specs.declared.axioms.Axiom.{Axiom}
use Rattle.ad_tree.specs.declared.axioms.Axiom.TheVariants as axioms
use Rattle.ad_syntax_laws.proofs.Induction.{RangeCases, range_induction, ClassCases, class_induction}
use Rattle.ad_syntax_laws.proofs.Equations as eq
use Rattle.ad_cells.specs.declared.cell.Cell.{Cell}
use Rattle.ad_cells.specs.declared.cell.Cell.TheVariants as cells
use Rattle.ad_cells.specs.Codes.{symbol_in, symbols_of}
use Rattle.ad_codes.specs.Encoded.{name_cell, property_cell, restriction, range_code, optional_range_code, class_code, optional_class_code, code_of}
use Rattle.ad_codes.proofs.CodeEquations as code

-- P holds of the codes of a name, of a code without numbers with any entities, and of codes one after another
pub record IsJoining (number other : Entity → Option ℕ) (P : List Cell → List Cell → List Entity → Type 0) : Type 0 where
  pub name : (kind : EntityKind) (name : List ℕ) → P (name_cell number kind name ∷ []) (name_cell other kind name ∷ []) (named kind name)
  pub constant : (code : List Cell) (es : List Entity) → symbols_of code ≡ [] → P code code es
  pub in_order : (a c b d : List Cell) (es fs : List Entity) → P a c es → P b d fs → P (a ++ b) (c ++ d) (es ++ fs)
  pub other_order : (a c b d : List Cell) (es fs : List Entity) → P a c es → P b d fs → P (b ++ a) (d ++ c) (es ++ fs)

module _ (number other : Entity → Option ℕ) (P : List Cell → List Cell → List Entity → Type 0) (joins : IsJoining number other P) where
  in_order : {a c b d : List Cell} {es fs : List Entity} → P a c es → P b d fs → P (a ++ b) (c ++ d) (es ++ fs)
  in_order {a} {c} {b} {d} {es} {fs} h k = joins.in_order a c b d es fs h k

  other_order : {a c b d : List Cell} {es fs : List Entity} → P a c es → P b d fs → P (b ++ a) (d ++ c) (es ++ fs)
  other_order {a} {c} {b} {d} {es} {fs} h k = joins.other_order a c b d es fs h k

  -- an operator behind a code has no number, and further entities may have none
  with_operator : {a c : List Cell} {es : List Entity} (operator : Cell) → symbol_in operator ≡ [] → P a c es → P (a ++ operator ∷ []) (c ++ operator ∷ []) es
  with_operator {a} {c} {es} operator e h = subst (P (a ++ operator ∷ []) (c ++ operator ∷ [])) (append-nil es) (in_order h (joins.constant (operator ∷ []) [] (ap (λ z. z ++ []) e)))

  with_others : {a c : List Cell} {es : List Entity} (fs : List Entity) → P a c es → P a c (es ++ fs)
  with_others {a} {c} {es} fs h = subst (λ z. P z c (es ++ fs)) (append-nil a) (subst (λ z. P (a ++ []) z (es ++ fs)) (append-nil c) (in_order h (joins.constant [] fs refl)))

  of_each : {X : Type 0} (f g : X → List Cell) (h : X → List Entity) (xs : List X) → AllByRecursion (λ x. P (f x) (g x) (h x)) xs → P (flat_map f xs) (flat_map g xs) (flat_map h xs)
  of_each f g h [] each = joins.constant [] [] refl
  of_each f g h (x ∷ xs) each = in_order each.0 (of_each f g h xs each.1)

  of_cells : {X : Type 0} (f g : X → Cell) (h : X → List Entity) → ((x : X) → P (f x ∷ []) (g x ∷ []) (h x)) → (xs : List X) → P (map f xs) (map g xs) (flat_map h xs)
  of_cells f g h one [] = joins.constant [] [] refl
  of_cells f g h one (x ∷ xs) = in_order (one x) (of_cells f g h one xs)

  of_property_cell : (p : ObjProp) → P (property_cell number p ∷ []) (property_cell other p ∷ []) (of_property p)
  of_property_cell (props.Named p) = joins.name kinds.ObjectProperty p
  of_property_cell (props.Inverse p) = joins.name kinds.ObjectProperty p

  -- an operator with a property and a filler
  restricts : {p q : Cell} {a c : List Cell} {es fs : List Entity} (operator : Cell) → symbol_in operator ≡ [] → P (p ∷ []) (q ∷ []) es → P a c fs → P (restriction operator p a) (restriction operator q c) (es ++ fs)
  restricts operator e h k = with_operator operator e (in_order h k)

  -- the statement at a variant, from that at its layer
  at_layer : {a c x y : List Cell} {es fs : List Entity} → a ≡ x → c ≡ y → es ≡ fs → P x y fs → P a c es
  at_layer {a} {c} {x} {y} {es} {fs} e f g h = subst (λ z. P z c es) (sym e) (subst (λ z. P x z es) (sym f) (subst (P x y) (sym g) h))

  abbrev RangeHas : Range → Type 0
  RangeHas x = P (range_code number x) (range_code other x) (of_range x)

  range_cases : RangeCases RangeHas
  range_cases = record {
    named = λ w. at_layer (code.range_code-named number w) (code.range_code-named other w) (eq.of_range-named w) (joins.name kinds.Datatype w);
    intersection = λ xs ih. at_layer (code.range_code-intersection number xs) (code.range_code-intersection other xs) (eq.of_range-intersection xs) (with_operator (cells.And (length xs)) refl (of_each (range_code number) (range_code other) of_range xs ih));
    union = λ xs ih. at_layer (code.range_code-union number xs) (code.range_code-union other xs) (eq.of_range-union xs) (with_operator (cells.Or (length xs)) refl (of_each (range_code number) (range_code other) of_range xs ih));
    complement = λ x ih. at_layer (code.range_code-complement number x) (code.range_code-complement other x) (eq.of_range-complement x) (with_operator cells.Not refl ih);
    one_of = λ vs. at_layer (code.range_code-one_of number vs) (code.range_code-one_of other vs) (eq.of_range-one_of vs) (joins.constant (cells.Known (enumeration vs) ∷ []) (flat_map of_literal vs) refl);
    restriction = λ w fs. at_layer (code.range_code-restriction number w fs) (code.range_code-restriction other w fs) (eq.of_range-restriction w fs) (with_operator cells.Restricted refl (joins.name kinds.Datatype w));
  }

  of_range_code : (x : Range) → P (range_code number x) (range_code other x) (of_range x)
  of_range_code = range_induction RangeHas range_cases

  of_optional_range : (x : Option Range) → P (optional_range_code number x) (optional_range_code other x) (of_optional of_range x)
  of_optional_range None = joins.constant (cells.Known everything ∷ []) [] refl
  of_optional_range (Some x) = of_range_code x

  abbrev ClassHas : Class → Type 0
  ClassHas x = P (class_code number x) (class_code other x) (of_class x)

  of_optional_class : (x : Option Class) → IfSome x ClassHas → P (optional_class_code number x) (optional_class_code other x) (of_optional of_class x)
  of_optional_class None ih = joins.constant (cells.Known everything ∷ []) [] refl
  of_optional_class (Some x) ih = ih

  class_cases : ClassCases ClassHas
  class_cases = record {
    named = λ w. at_layer (code.class_code-named number w) (code.class_code-named other w) (eq.of_class-named w) (joins.name kinds.Class w);
    intersection = λ xs ih. at_layer (code.class_code-intersection number xs) (code.class_code-intersection other xs) (eq.of_class-intersection xs) (with_operator (cells.And (length xs)) refl (of_each (class_code number) (class_code other) of_class xs ih));
    union = λ xs ih. at_layer (code.class_code-union number xs) (code.class_code-union other xs) (eq.of_class-union xs) (with_operator (cells.Or (length xs)) refl (of_each (class_code number) (class_code other) of_class xs ih));
    complement = λ x ih. at_layer (code.class_code-complement number x) (code.class_code-complement other x) (eq.of_class-complement x) (with_operator cells.Not refl ih);
    one_of = λ xs. at_layer (code.class_code-one_of number xs) (code.class_code-one_of other xs) (eq.of_class-one_of xs) (joins.constant (cells.Known (enumeration xs) ∷ []) (flat_map of_individual xs) refl);
    obj_some = λ p x ih. at_layer (code.class_code-obj_some number p x) (code.class_code-obj_some other p x) (eq.of_class-obj_some p x) (restricts cells.Some refl (of_property_cell p) ih);
    obj_all = λ p x ih. at_layer (code.class_code-obj_all number p x) (code.class_code-obj_all other p x) (eq.of_class-obj_all p x) (restricts cells.All refl (of_property_cell p) ih);
    obj_value = λ p i. at_layer (code.class_code-obj_value number p i) (code.class_code-obj_value other p i) (eq.of_class-obj_value p i) (with_others (of_individual i) (of_property_cell p));
    obj_self = λ p. at_layer (code.class_code-obj_self number p) (code.class_code-obj_self other p) (eq.of_class-obj_self p) (of_property_cell p);
    obj_min = λ n p x ih. at_layer (code.class_code-obj_min number n p x) (code.class_code-obj_min other n p x) (eq.of_class-obj_min n p x) (restricts (cells.AtLeast n) refl (of_property_cell p) (of_optional_class x ih));
    obj_max = λ n p x ih. at_layer (code.class_code-obj_max number n p x) (code.class_code-obj_max other n p x) (eq.of_class-obj_max n p x) (restricts (cells.AtMost n) refl (of_property_cell p) (of_optional_class x ih));
    obj_exact = λ n p x ih. at_layer (code.class_code-obj_exact number n p x) (code.class_code-obj_exact other n p x) (eq.of_class-obj_exact n p x) (restricts (cells.Exactly n) refl (of_property_cell p) (of_optional_class x ih));
    data_some = λ p x. at_layer (code.class_code-data_some number p x) (code.class_code-data_some other p x) (eq.of_class-data_some p x) (restricts cells.Some refl (joins.name kinds.DataProperty p) (of_range_code x));
    data_all = λ p x. at_layer (code.class_code-data_all number p x) (code.class_code-data_all other p x) (eq.of_class-data_all p x) (restricts cells.All refl (joins.name kinds.DataProperty p) (of_range_code x));
    data_value = λ p v. at_layer (code.class_code-data_value number p v) (code.class_code-data_value other p v) (eq.of_class-data_value p v) (with_others (of_literal v) (joins.name kinds.DataProperty p));
    data_min = λ n p x. at_layer (code.class_code-data_min number n p x) (code.class_code-data_min other n p x) (eq.of_class-data_min n p x) (restricts (cells.AtLeast n) refl (joins.name kinds.DataProperty p) (of_optional_range x));
    data_max = λ n p x. at_layer (code.class_code-data_max number n p x) (code.class_code-data_max other n p x) (eq.of_class-data_max n p x) (restricts (cells.AtMost n) refl (joins.name kinds.DataProperty p) (of_optional_range x));
    data_exact = λ n p x. at_layer (code.class_code-data_exact number n p x) (code.class_code-data_exact other n p x) (eq.of_class-data_exact n p x) (restricts (cells.Exactly n) refl (joins.name kinds.DataProperty p) (of_optional_range x));
  }

  of_class_code : (x : Class) → P (class_code number x) (class_code other x) (of_class x)
  of_class_code = class_induction ClassHas class_cases

  of_classes : (xs : List Class) → P (flat_map (class_code number) xs) (flat_map (class_code other) xs) (flat_map of_class xs)
  of_classes xs = of_each (class_code number) (class_code other) of_class xs (each xs)
    where
      each : (xs : List Class) → AllByRecursion ClassHas xs
      each [] = tt
      each (x ∷ xs) = (of_class_code x, each xs)

  of_properties : (xs : List ObjProp) → P (map (property_cell number) xs) (map (property_cell other) xs) (flat_map of_property xs)
  of_properties = of_cells (property_cell number) (property_cell other) of_property of_property_cell

  of_data : (xs : List (List ℕ)) → P (map (name_cell number kinds.DataProperty) xs) (map (name_cell other kinds.DataProperty) xs) (flat_map (named kinds.DataProperty) xs)
  of_data = of_cells (name_cell number kinds.DataProperty) (name_cell other kinds.DataProperty) (named kinds.DataProperty) (joins.name kinds.DataProperty)

  pub of_axiom : (a : Axiom) → P (code_of number a) (code_of other a) (occurrences a)
  of_axiom (axioms.SubClassOf sub super) = other_order (of_class_code sub) (of_class_code super)
  of_axiom (axioms.EquivalentClasses xs) = of_classes xs
  of_axiom (axioms.DisjointClasses xs) = of_classes xs
  of_axiom (axioms.DisjointUnion class parts) = in_order (joins.name kinds.Class class) (of_classes parts)
  of_axiom (axioms.SubObjectPropertyOf sub super) = other_order (of_property_cell sub) (of_property_cell super)
  of_axiom (axioms.SubObjectPropertyChainOf chain super) = other_order (of_properties chain) (of_property_cell super)
  of_axiom (axioms.EquivalentObjectProperties xs) = of_properties xs
  of_axiom (axioms.DisjointObjectProperties xs) = of_properties xs
  of_axiom (axioms.InverseObjectProperties first second) = in_order (of_property_cell first) (of_property_cell second)
  of_axiom (axioms.ObjectPropertyDomain property class) = other_order (of_property_cell property) (of_class_code class)
  of_axiom (axioms.ObjectPropertyRange property class) = other_order (of_property_cell property) (of_class_code class)
  of_axiom (axioms.FunctionalObjectProperty p) = of_property_cell p
  of_axiom (axioms.InverseFunctionalObjectProperty p) = of_property_cell p
  of_axiom (axioms.ReflexiveObjectProperty p) = of_property_cell p
  of_axiom (axioms.IrreflexiveObjectProperty p) = of_property_cell p
  of_axiom (axioms.SymmetricObjectProperty p) = of_property_cell p
  of_axiom (axioms.AsymmetricObjectProperty p) = of_property_cell p
  of_axiom (axioms.TransitiveObjectProperty p) = of_property_cell p
  of_axiom (axioms.SubDataPropertyOf sub super) = other_order (joins.name kinds.DataProperty sub) (joins.name kinds.DataProperty super)
  of_axiom (axioms.EquivalentDataProperties xs) = of_data xs
  of_axiom (axioms.DisjointDataProperties xs) = of_data xs
  of_axiom (axioms.DataPropertyDomain property class) = other_order (joins.name kinds.DataProperty property) (of_class_code class)
  of_axiom (axioms.DataPropertyRange property range) = other_order (joins.name kinds.DataProperty property) (of_range_code range)
  of_axiom (axioms.FunctionalDataProperty p) = joins.name kinds.DataProperty p
  of_axiom (axioms.DatatypeDefinition datatype range) = in_order (joins.name kinds.Datatype datatype) (of_range_code range)
  of_axiom (axioms.HasKey class objects values) = in_order (in_order (of_class_code class) (of_properties objects)) (of_data values)
  of_axiom (axioms.SameIndividual individuals) = joins.constant [] (flat_map of_individual individuals) refl
  of_axiom (axioms.DifferentIndividuals individuals) = joins.constant [] (flat_map of_individual individuals) refl
  of_axiom (axioms.ClassAssertion class individual) = with_others (of_individual individual) (of_class_code class)
  of_axiom (axioms.ObjectPropertyAssertion p source target) = with_others (of_individual target) (with_others (of_individual source) (of_property_cell p))
  of_axiom (axioms.NegativeObjectPropertyAssertion p source target) = with_others (of_individual target) (with_others (of_individual source) (of_property_cell p))
  of_axiom (axioms.DataPropertyAssertion p source target) = with_others (of_literal target) (with_others (of_individual source) (joins.name kinds.DataProperty p))
  of_axiom (axioms.NegativeDataPropertyAssertion p source target) = with_others (of_literal target) (with_others (of_individual source) (joins.name kinds.DataProperty p))
  of_axiom (axioms.Declaration declared) = joins.constant [] [] refl
  of_axiom (axioms.AnnotationAssertion property subject value) = joins.constant [] [] refl
  of_axiom (axioms.SubAnnotationPropertyOf sub super) = joins.constant [] [] refl
  of_axiom (axioms.AnnotationPropertyDomain property domain) = joins.constant [] [] refl
  of_axiom (axioms.AnnotationPropertyRange property range) = joins.constant [] [] refl
