-- The laws of locality. Of each of an expression's own names, what is sure for T on the one side is sure for S on the
-- other; then what the table is sure of for T on the one side it is sure of for S on the other. Where the sides are
-- the same this says that locality shrinks as the seen names grow, and where S and T are, that the side makes no
-- difference if all own names are seen.
use Rattle.std.proofs.Common.{◌≡◌, ℕ, Bool, true, false, cond, List, [], ◌∷◌, ◌++◌, Option, None, Some, IfSome, is_some, IsTrue, subst, sym, ◌∙◌, refl}
use Rattle.std.specs.List.{AllByRecursion, list_any, flat_map}
use Rattle.ad_base.specs.declared.limits.Side.{Side}
use Rattle.ad_entity.specs.Entities.{entity, has_entity, same_entity}
use Rattle.ad_locality.specs.Columns.{builtin, neither, everything}
use Rattle.ad_locality.specs.Signature.{named, of_property, of_individual, of_literal, of_range, of_class, of_optional, occurrences, in_signature}
use Rattle.ad_locality.specs.Locality.{class_surely, range_surely, optional_range, name_surely, property_surely, unless_builtin, outside, enumeration, local}
use Rattle.ad_locality.specs.declared.surely.Surely.{Surely}
use Rattle.ad_locality.proofs.ColumnLemmas.{has_columns}
use Rattle.ad_entity.specs.declared.entities.Entity.{Entity}
use Rattle.ad_entity.specs.declared.entities.EntityKind.{EntityKind}
use Rattle.ad_entity.specs.declared.entities.EntityKind.TheVariants as kinds
use Rattle.ad_tree.specs.declared.names.ObjProp.{ObjProp}
use Rattle.ad_tree.specs.declared.names.ObjProp.TheVariants as props
use Rattle.ad_tree.specs.declared.ranges.Range.{Range}
use Rattle.ad_tree.specs.declared.classes.Class.{Class}
use Rattle.ad_tree.specs.declared.axioms.Axiom.{Axiom}
use Rattle.ad_tree.specs.declared.axioms.Axiom.TheVariants as axioms
use Rattle.ad_theory.specs.Module.{IsAntitone}
use Rattle.ad_theory.proofs.Members.{or_left}
use Rattle.ad_syntax_laws.specs.OntologyLogic.{axiom_logic}
use Rattle.ad_syntax_laws.proofs.Induction.{RangeCases, range_induction, ClassCases, class_induction}
use Rattle.ad_syntax_laws.proofs.Equations as eq
use Rattle.ad_syntax_laws.proofs.Equations.{optional_class}
use Rattle.ad_syntax_laws.proofs.EntityLemmas.{same_entity_refl, has_entity_left, has_entity_right}
use Rattle.ad_syntax_laws.proofs.SurelyLemmas.{IsLess, IsBelow, less_refl, less_or, less_and, below_refl, below_along, complement_below, some_of_below, all_of_below, at_least_below, at_most_below, exactly_below, both_or_neither_less, all_empty_less, one_is_whole_less, intersection_below, union_below, are_equivalent_less, are_disjoint_less}

-- how a name that isn't built in is read: nothing is sure of a seen one, and any other is outside
abbrev pub reading : Side → (Entity → Bool) → Entity → Surely
reading side seen e = cond (seen e) neither (outside side)

-- what is sure of each listed entity for T on the one side is sure of it for S on the other
pub record IsCovered (side other : Side) (S T : Entity → Bool) (es : List Entity) : Type 0 where
  pub has : (e : Entity) → IsTrue (has_entity es e) → IsBelow (reading side T e) (reading other S e)

module _ (side other : Side) (S T : Entity → Bool) where
  pub covered_left : (xs ys : List Entity) → IsCovered side other S T (xs ++ ys) → IsCovered side other S T xs
  covered_left xs ys k = record { has = λ e h. k.has e (has_entity_left xs ys e h) }

  pub covered_right : (xs ys : List Entity) → IsCovered side other S T (xs ++ ys) → IsCovered side other S T ys
  covered_right xs ys k = record { has = λ e h. k.has e (has_entity_right xs ys e h) }

  -- what follows for each where it is covered, follows for each of a list that is
  pub covered_each : {X : Type 0} (h : X → List Entity) (P : X → Type 0) (xs : List X) → AllByRecursion (λ x. IsCovered side other S T (h x) → P x) xs → IsCovered side other S T (flat_map h xs) → AllByRecursion P xs
  covered_each h P [] each k = tt
  covered_each h P (x ∷ xs) each k = (each.0 (covered_left (h x) (flat_map h xs) k), covered_each h P xs each.1 (covered_right (h x) (flat_map h xs) k))

  pub all_covered : {X : Type 0} (h : X → List Entity) (P : X → Type 0) → ((x : X) → IsCovered side other S T (h x) → P x) → (xs : List X) → IsCovered side other S T (flat_map h xs) → AllByRecursion P xs
  all_covered h P f [] k = tt
  all_covered h P f (x ∷ xs) k = (f x (covered_left (h x) (flat_map h xs) k), all_covered h P f xs (covered_right (h x) (flat_map h xs) k))

  unless_below : (known : Option Surely) (e : Entity) → IsCovered side other S T (cond (is_some known) [] (e ∷ [])) → IsBelow (unless_builtin known (reading side T e)) (unless_builtin known (reading other S e))
  unless_below (Some known) e k = below_refl known
  unless_below None e k = k.has e (or_left (same_entity e e) false (same_entity_refl e))

  pub name_below : (kind : EntityKind) (name : List ℕ) → IsCovered side other S T (named kind name) → IsBelow (name_surely side T kind name) (name_surely other S kind name)
  name_below kind name k = unless_below (builtin kind name) (entity kind name) (subst (λ z. IsCovered side other S T (cond z [] (entity kind name ∷ []))) (sym (has_columns kind name)) k)

  pub property_below : (p : ObjProp) → IsCovered side other S T (of_property p) → IsBelow (property_surely side T p) (property_surely other S p)
  property_below (props.Named p) k = name_below kinds.ObjectProperty p k
  property_below (props.Inverse p) k = name_below kinds.ObjectProperty p k

  -- the statement at a variant, from that at its layer
  at_layer : {es layer : List Entity} {a a' b b' : Surely} → es ≡ layer → a ≡ a' → b ≡ b' → (IsCovered side other S T layer → IsBelow a' b') → IsCovered side other S T es → IsBelow a b
  at_layer e f g below k = below_along f g (below (subst (IsCovered side other S T) e k))

  RangeBelow : Range → Type 0
  RangeBelow x = IsCovered side other S T (of_range x) → IsBelow (range_surely side T x) (range_surely other S x)

  range_cases : RangeCases RangeBelow
  unfolding RangeBelow
  range_cases = record {
    named = λ w. at_layer (eq.of_range-named w) (eq.range_surely-named side T w) (eq.range_surely-named other S w) (λ k. name_below kinds.Datatype w k);
    intersection = λ xs ih. at_layer (eq.of_range-intersection xs) (eq.range_surely-intersection side T xs) (eq.range_surely-intersection other S xs) (λ k. intersection_below (range_surely side T) (range_surely other S) xs (covered_each of_range (λ x. IsBelow (range_surely side T x) (range_surely other S x)) xs ih k));
    union = λ xs ih. at_layer (eq.of_range-union xs) (eq.range_surely-union side T xs) (eq.range_surely-union other S xs) (λ k. union_below (range_surely side T) (range_surely other S) xs (covered_each of_range (λ x. IsBelow (range_surely side T x) (range_surely other S x)) xs ih k));
    complement = λ x ih. at_layer (eq.of_range-complement x) (eq.range_surely-complement side T x) (eq.range_surely-complement other S x) (λ k. complement_below (ih k));
    one_of = λ vs. at_layer (eq.of_range-one_of vs) (eq.range_surely-one_of side T vs) (eq.range_surely-one_of other S vs) (λ k. below_refl (enumeration vs));
    restriction = λ w fs. at_layer (eq.of_range-restriction w fs) (eq.range_surely-restriction side T w fs) (eq.range_surely-restriction other S w fs) (λ k. record { empty = (name_below kinds.Datatype w k).empty; whole = less_refl false; nonempty = less_refl false });
  }

  range_below : (x : Range) → IsCovered side other S T (of_range x) → IsBelow (range_surely side T x) (range_surely other S x)
  unfolding RangeBelow
  range_below = range_induction RangeBelow range_cases

  ClassBelow : Class → Type 0
  ClassBelow x = IsCovered side other S T (of_class x) → IsBelow (class_surely side T x) (class_surely other S x)

  optional_range_below : (x : Option Range) → IsCovered side other S T (of_optional of_range x) → IsBelow (optional_range side T x) (optional_range other S x)
  optional_range_below None k = below_refl everything
  optional_range_below (Some x) k = range_below x k

  optional_class_below : (x : Option Class) → IfSome x ClassBelow → IsCovered side other S T (of_optional of_class x) → IsBelow (optional_class side T x) (optional_class other S x)
  unfolding ClassBelow
  optional_class_below None ih k = below_refl everything
  optional_class_below (Some x) ih k = ih k

  class_cases : ClassCases ClassBelow
  unfolding ClassBelow
  class_cases = record {
    named = λ class. at_layer (eq.of_class-named class) (eq.class_surely-named side T class) (eq.class_surely-named other S class) (λ k. name_below kinds.Class class k);
    intersection = λ operands ih. at_layer (eq.of_class-intersection operands) (eq.class_surely-intersection side T operands) (eq.class_surely-intersection other S operands) (λ k. intersection_below (class_surely side T) (class_surely other S) operands (covered_each of_class (λ x. IsBelow (class_surely side T x) (class_surely other S x)) operands ih k));
    union = λ operands ih. at_layer (eq.of_class-union operands) (eq.class_surely-union side T operands) (eq.class_surely-union other S operands) (λ k. union_below (class_surely side T) (class_surely other S) operands (covered_each of_class (λ x. IsBelow (class_surely side T x) (class_surely other S x)) operands ih k));
    complement = λ operand ih. at_layer (eq.of_class-complement operand) (eq.class_surely-complement side T operand) (eq.class_surely-complement other S operand) (λ k. complement_below (ih k));
    one_of = λ individuals. at_layer (eq.of_class-one_of individuals) (eq.class_surely-one_of side T individuals) (eq.class_surely-one_of other S individuals) (λ k. below_refl (enumeration individuals));
    obj_some = λ property filler ih. at_layer (eq.of_class-obj_some property filler) (eq.class_surely-obj_some side T property filler) (eq.class_surely-obj_some other S property filler) (λ k. some_of_below (property_below property (covered_left (of_property property) (of_class filler) k)) (ih (covered_right (of_property property) (of_class filler) k)));
    obj_all = λ property filler ih. at_layer (eq.of_class-obj_all property filler) (eq.class_surely-obj_all side T property filler) (eq.class_surely-obj_all other S property filler) (λ k. all_of_below (property_below property (covered_left (of_property property) (of_class filler) k)) (ih (covered_right (of_property property) (of_class filler) k)));
    obj_value = λ property individual. at_layer (eq.of_class-obj_value property individual) (eq.class_surely-obj_value side T property individual) (eq.class_surely-obj_value other S property individual) (λ k. property_below property (covered_left (of_property property) (of_individual individual) k));
    obj_self = λ property. at_layer (eq.of_class-obj_self property) (eq.class_surely-obj_self side T property) (eq.class_surely-obj_self other S property) (λ k. property_below property k);
    obj_min = λ n property filler ih. at_layer (eq.of_class-obj_min n property filler) (eq.class_surely-obj_min side T n property filler) (eq.class_surely-obj_min other S n property filler) (λ k. at_least_below n (property_below property (covered_left (of_property property) (of_optional of_class filler) k)) (optional_class_below filler ih (covered_right (of_property property) (of_optional of_class filler) k)));
    obj_max = λ n property filler ih. at_layer (eq.of_class-obj_max n property filler) (eq.class_surely-obj_max side T n property filler) (eq.class_surely-obj_max other S n property filler) (λ k. at_most_below n (property_below property (covered_left (of_property property) (of_optional of_class filler) k)) (optional_class_below filler ih (covered_right (of_property property) (of_optional of_class filler) k)));
    obj_exact = λ n property filler ih. at_layer (eq.of_class-obj_exact n property filler) (eq.class_surely-obj_exact side T n property filler) (eq.class_surely-obj_exact other S n property filler) (λ k. exactly_below n (property_below property (covered_left (of_property property) (of_optional of_class filler) k)) (optional_class_below filler ih (covered_right (of_property property) (of_optional of_class filler) k)));
    data_some = λ property range. at_layer (eq.of_class-data_some property range) (eq.class_surely-data_some side T property range) (eq.class_surely-data_some other S property range) (λ k. some_of_below (name_below kinds.DataProperty property (covered_left (named kinds.DataProperty property) (of_range range) k)) (range_below range (covered_right (named kinds.DataProperty property) (of_range range) k)));
    data_all = λ property range. at_layer (eq.of_class-data_all property range) (eq.class_surely-data_all side T property range) (eq.class_surely-data_all other S property range) (λ k. all_of_below (name_below kinds.DataProperty property (covered_left (named kinds.DataProperty property) (of_range range) k)) (range_below range (covered_right (named kinds.DataProperty property) (of_range range) k)));
    data_value = λ property value. at_layer (eq.of_class-data_value property value) (eq.class_surely-data_value side T property value) (eq.class_surely-data_value other S property value) (λ k. name_below kinds.DataProperty property (covered_left (named kinds.DataProperty property) (of_literal value) k));
    data_min = λ n property range. at_layer (eq.of_class-data_min n property range) (eq.class_surely-data_min side T n property range) (eq.class_surely-data_min other S n property range) (λ k. at_least_below n (name_below kinds.DataProperty property (covered_left (named kinds.DataProperty property) (of_optional of_range range) k)) (optional_range_below range (covered_right (named kinds.DataProperty property) (of_optional of_range range) k)));
    data_max = λ n property range. at_layer (eq.of_class-data_max n property range) (eq.class_surely-data_max side T n property range) (eq.class_surely-data_max other S n property range) (λ k. at_most_below n (name_below kinds.DataProperty property (covered_left (named kinds.DataProperty property) (of_optional of_range range) k)) (optional_range_below range (covered_right (named kinds.DataProperty property) (of_optional of_range range) k)));
    data_exact = λ n property range. at_layer (eq.of_class-data_exact n property range) (eq.class_surely-data_exact side T n property range) (eq.class_surely-data_exact other S n property range) (λ k. exactly_below n (name_below kinds.DataProperty property (covered_left (named kinds.DataProperty property) (of_optional of_range range) k)) (optional_range_below range (covered_right (named kinds.DataProperty property) (of_optional of_range range) k)));
  }

  class_below : (x : Class) → IsCovered side other S T (of_class x) → IsBelow (class_surely side T x) (class_surely other S x)
  unfolding ClassBelow
  class_below = class_induction ClassBelow class_cases

  classes_below : (xs : List Class) → IsCovered side other S T (flat_map of_class xs) → AllByRecursion (λ x. IsBelow (class_surely side T x) (class_surely other S x)) xs
  classes_below = all_covered of_class (λ x. IsBelow (class_surely side T x) (class_surely other S x)) class_below

  properties_below : (xs : List ObjProp) → IsCovered side other S T (flat_map of_property xs) → AllByRecursion (λ x. IsBelow (property_surely side T x) (property_surely other S x)) xs
  properties_below = all_covered of_property (λ x. IsBelow (property_surely side T x) (property_surely other S x)) property_below

  data_below : (xs : List (List ℕ)) → IsCovered side other S T (flat_map (named kinds.DataProperty) xs) → AllByRecursion (λ x. IsBelow (name_surely side T kinds.DataProperty x) (name_surely other S kinds.DataProperty x)) xs
  data_below = all_covered (named kinds.DataProperty) (λ x. IsBelow (name_surely side T kinds.DataProperty x) (name_surely other S kinds.DataProperty x)) (name_below kinds.DataProperty)

  any_empty_property : (xs : List ObjProp) → AllByRecursion (λ x. IsBelow (property_surely side T x) (property_surely other S x)) xs → IsLess (list_any (λ r. (property_surely side T r).empty) xs) (list_any (λ r. (property_surely other S r).empty) xs)
  any_empty_property [] h = less_refl false
  any_empty_property (x ∷ xs) h = less_or h.0.empty (any_empty_property xs h.1)

  any_empty_data : (xs : List (List ℕ)) → AllByRecursion (λ x. IsBelow (name_surely side T kinds.DataProperty x) (name_surely other S kinds.DataProperty x)) xs → IsLess (list_any (λ r. (name_surely side T kinds.DataProperty r).empty) xs) (list_any (λ r. (name_surely other S kinds.DataProperty r).empty) xs)
  any_empty_data [] h = less_refl false
  any_empty_data (x ∷ xs) h = less_or h.0.empty (any_empty_data xs h.1)

  pub axiom_below : (a : Axiom) → IsCovered side other S T (occurrences a) → IsLess (local side T a) (local other S a)
  axiom_below (axioms.SubClassOf sub super) k = less_or (class_below sub (covered_left (of_class sub) (of_class super) k)).empty (class_below super (covered_right (of_class sub) (of_class super) k)).whole
  axiom_below (axioms.EquivalentClasses cs) k = are_equivalent_less (class_surely side T) (class_surely other S) cs (classes_below cs k)
  axiom_below (axioms.DisjointClasses cs) k = are_disjoint_less (class_surely side T) (class_surely other S) cs (classes_below cs k)
  axiom_below (axioms.DisjointUnion name cs) k = less_or (less_and (name_below kinds.Class name (covered_left (named kinds.Class name) (flat_map of_class cs) k)).empty (all_empty_less (class_surely side T) (class_surely other S) cs (classes_below cs (covered_right (named kinds.Class name) (flat_map of_class cs) k)))) (less_and (name_below kinds.Class name (covered_left (named kinds.Class name) (flat_map of_class cs) k)).whole (one_is_whole_less (class_surely side T) (class_surely other S) cs (classes_below cs (covered_right (named kinds.Class name) (flat_map of_class cs) k))))
  axiom_below (axioms.SubObjectPropertyOf sub super) k = less_or (property_below sub (covered_left (of_property sub) (of_property super) k)).empty (property_below super (covered_right (of_property sub) (of_property super) k)).whole
  axiom_below (axioms.SubObjectPropertyChainOf chain super) k = less_or (any_empty_property chain (properties_below chain (covered_left (flat_map of_property chain) (of_property super) k))) (property_below super (covered_right (flat_map of_property chain) (of_property super) k)).whole
  axiom_below (axioms.EquivalentObjectProperties ps) k = are_equivalent_less (property_surely side T) (property_surely other S) ps (properties_below ps k)
  axiom_below (axioms.DisjointObjectProperties ps) k = are_disjoint_less (property_surely side T) (property_surely other S) ps (properties_below ps k)
  axiom_below (axioms.InverseObjectProperties first second) k = both_or_neither_less (property_below first (covered_left (of_property first) (of_property second) k)) (property_below second (covered_right (of_property first) (of_property second) k))
  axiom_below (axioms.ObjectPropertyDomain property class) k = less_or (property_below property (covered_left (of_property property) (of_class class) k)).empty (class_below class (covered_right (of_property property) (of_class class) k)).whole
  axiom_below (axioms.ObjectPropertyRange property class) k = less_or (property_below property (covered_left (of_property property) (of_class class) k)).empty (class_below class (covered_right (of_property property) (of_class class) k)).whole
  axiom_below (axioms.FunctionalObjectProperty property) k = (property_below property k).empty
  axiom_below (axioms.InverseFunctionalObjectProperty property) k = (property_below property k).empty
  axiom_below (axioms.ReflexiveObjectProperty property) k = (property_below property k).whole
  axiom_below (axioms.IrreflexiveObjectProperty property) k = (property_below property k).empty
  axiom_below (axioms.SymmetricObjectProperty property) k = less_or (property_below property k).empty (property_below property k).whole
  axiom_below (axioms.AsymmetricObjectProperty property) k = (property_below property k).empty
  axiom_below (axioms.TransitiveObjectProperty property) k = less_or (property_below property k).empty (property_below property k).whole
  axiom_below (axioms.SubDataPropertyOf sub super) k = less_or (name_below kinds.DataProperty sub (covered_left (named kinds.DataProperty sub) (named kinds.DataProperty super) k)).empty (name_below kinds.DataProperty super (covered_right (named kinds.DataProperty sub) (named kinds.DataProperty super) k)).whole
  axiom_below (axioms.EquivalentDataProperties ds) k = are_equivalent_less (name_surely side T kinds.DataProperty) (name_surely other S kinds.DataProperty) ds (data_below ds k)
  axiom_below (axioms.DisjointDataProperties ds) k = are_disjoint_less (name_surely side T kinds.DataProperty) (name_surely other S kinds.DataProperty) ds (data_below ds k)
  axiom_below (axioms.DataPropertyDomain property class) k = less_or (name_below kinds.DataProperty property (covered_left (named kinds.DataProperty property) (of_class class) k)).empty (class_below class (covered_right (named kinds.DataProperty property) (of_class class) k)).whole
  axiom_below (axioms.DataPropertyRange property range) k = less_or (name_below kinds.DataProperty property (covered_left (named kinds.DataProperty property) (of_range range) k)).empty (range_below range (covered_right (named kinds.DataProperty property) (of_range range) k)).whole
  axiom_below (axioms.FunctionalDataProperty property) k = (name_below kinds.DataProperty property k).empty
  axiom_below (axioms.DatatypeDefinition datatype range) k = both_or_neither_less (name_below kinds.Datatype datatype (covered_left (named kinds.Datatype datatype) (of_range range) k)) (range_below range (covered_right (named kinds.Datatype datatype) (of_range range) k))
  axiom_below (axioms.HasKey class objects values) k = less_or (class_below class (covered_left (of_class class) (flat_map of_property objects) (covered_left (of_class class ++ flat_map of_property objects) (flat_map (named kinds.DataProperty) values) k))).empty (less_or (any_empty_property objects (properties_below objects (covered_right (of_class class) (flat_map of_property objects) (covered_left (of_class class ++ flat_map of_property objects) (flat_map (named kinds.DataProperty) values) k)))) (any_empty_data values (data_below values (covered_right (of_class class ++ flat_map of_property objects) (flat_map (named kinds.DataProperty) values) k))))
  axiom_below (axioms.SameIndividual individuals) k = less_refl _
  axiom_below (axioms.DifferentIndividuals individuals) k = less_refl _
  axiom_below (axioms.ClassAssertion class individual) k = (class_below class (covered_left (of_class class) (of_individual individual) k)).whole
  axiom_below (axioms.ObjectPropertyAssertion property source target) k = (property_below property (covered_left (of_property property) (of_individual source) (covered_left (of_property property ++ of_individual source) (of_individual target) k))).whole
  axiom_below (axioms.NegativeObjectPropertyAssertion property source target) k = (property_below property (covered_left (of_property property) (of_individual source) (covered_left (of_property property ++ of_individual source) (of_individual target) k))).empty
  axiom_below (axioms.DataPropertyAssertion property source target) k = (name_below kinds.DataProperty property (covered_left (named kinds.DataProperty property) (of_individual source) (covered_left (named kinds.DataProperty property ++ of_individual source) (of_literal target) k))).whole
  axiom_below (axioms.NegativeDataPropertyAssertion property source target) k = (name_below kinds.DataProperty property (covered_left (named kinds.DataProperty property) (of_individual source) (covered_left (named kinds.DataProperty property ++ of_individual source) (of_literal target) k))).empty
  axiom_below (axioms.Declaration declared) k = less_refl true
  axiom_below (axioms.AnnotationAssertion property subject value) k = less_refl true
  axiom_below (axioms.SubAnnotationPropertyOf sub super) k = less_refl true
  axiom_below (axioms.AnnotationPropertyDomain property domain) k = less_refl true
  axiom_below (axioms.AnnotationPropertyRange property range) k = less_refl true

true_both : (a b : Bool) → IsLess a b → IsLess b a → a ≡ b
true_both true true f g = refl
true_both true false f g = absurd (let e : false ≡ true = f.holds refl in cc)
true_both false true f g = absurd (let e : false ≡ true = g.holds refl in cc)
true_both false false f g = refl

-- names that are seen for S are seen for T too
fewer_below : (side : Side) (s t : Bool) → (IsTrue s → IsTrue t) → IsBelow (cond t neither (outside side)) (cond s neither (outside side))
fewer_below side true true f = below_refl neither
fewer_below side true false f = absurd (let h : false ≡ true = f refl in cc)
fewer_below side false true f = record { empty = record { holds = λ h. absurd (let k : false ≡ true = h in cc) }; whole = record { holds = λ h. absurd (let k : false ≡ true = h in cc) }; nonempty = record { holds = λ h. absurd (let k : false ≡ true = h in cc) } }
fewer_below side false false f = below_refl (outside side)

-- a seen name is read alike on both sides
seen_below : (side other : Side) (s : Bool) → IsTrue s → IsBelow (cond s neither (outside side)) (cond s neither (outside other))
seen_below side other true h = below_refl neither
seen_below side other false h = absurd (let k : false ≡ true = h in cc)

-- two tests that agree on an axiom's own entities
pub local_own : (side : Side) (S T : Entity → Bool) (a : Axiom) → ((e : Entity) → IsTrue (has_entity (occurrences a) e) → S e ≡ T e) → local side S a ≡ local side T a
local_own side S T a same =
    let up : IsCovered side side S T (occurrences a) = record { has = λ e h. fewer_below side (S e) (T e) (λ s. sym (same e h) ∙ s) } in
    let down : IsCovered side side T S (occurrences a) = record { has = λ e h. fewer_below side (T e) (S e) (λ t. same e h ∙ t) } in
    true_both _ _ (axiom_below side side T S a down) (axiom_below side side S T a up)

pub antitone : (side : Side) → IsAntitone (axiom_logic side)
antitone side = record { shrinks = λ S T a k h. (axiom_below side side S T a.axiom (record { has = λ e own. fewer_below side (S e) (T e) (k e own) })).holds h }

-- where an axiom's own entities are seen, the side makes no difference
pub local_seen : (side other : Side) (S : Entity → Bool) (a : Axiom) → ((e : Entity) → IsTrue (in_signature a e) → IsTrue (S e)) → local side S a ≡ local other S a
local_seen side other S a seen =
    let one : IsCovered side other S S (occurrences a) = record { has = λ e h. seen_below side other (S e) (seen e h) } in
    let two : IsCovered other side S S (occurrences a) = record { has = λ e h. seen_below other side (S e) (seen e h) } in
    true_both _ _ (axiom_below side other S S a one) (axiom_below other side S S a two)
