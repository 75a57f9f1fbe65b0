-- No entity in the signature of an axiom is built in.
use Rattle.std.proofs.Common.{◌≡◌, ℕ, true, false, cond, IsTrue, IsFalse, List, [], ◌∷◌, ◌++◌, Option, None, Some, IfSome, refl, sym, ◌∙◌, subst, inl, inr}
use Rattle.std.specs.List.{AllByRecursion, flat_map}
use Rattle.std.proofs.lemmas.List.Folds.{list_any-append}
use Rattle.ad_entity.specs.Builtin.{is_builtin}
use Rattle.ad_entity.specs.Entities.{entity, has_entity, same_entity}
use Rattle.ad_entity.specs.declared.entities.Entity.{Entity}
use Rattle.ad_entity.specs.declared.entities.EntityKind.{EntityKind}
use Rattle.ad_entity.specs.declared.entities.EntityKind.TheVariants as kinds
use Rattle.ad_locality.specs.Signature.{in_signature, named, occurrences, of_class, of_individual, of_literal, of_optional, of_property, of_range}
use Rattle.ad_tree.specs.declared.axioms.Axiom.{Axiom}
use Rattle.ad_tree.specs.declared.axioms.Axiom.TheVariants as axioms
use Rattle.ad_tree.specs.declared.names.ObjProp.{ObjProp}
use Rattle.ad_tree.specs.declared.names.ObjProp.TheVariants as props
use Rattle.ad_tree.specs.declared.names.Individual.{Individual}
use Rattle.ad_tree.specs.declared.names.Individual.TheVariants as individuals
use Rattle.ad_tree.specs.declared.literals.Literal.{Literal}
use Rattle.ad_tree.specs.declared.literals.Literal.TheVariants as literals
use Rattle.ad_tree.specs.declared.ranges.Range.{Range}
use Rattle.ad_tree.specs.declared.classes.Class.{Class}
use Rattle.ad_tree.proofs.Induction.{RangeCases, range_induction, ClassCases, class_induction}
use Rattle.ad_theory.proofs.Members.{either, not_both, or_cases}
use Rattle.ad_syntax_laws.proofs.EntityLemmas.{same_entity_is}
use Rattle.ad_syntax_laws.proofs.Equations as eq
use Rattle.ad_syntax_laws.specs.OntologyLogic.{seed_test}

-- no entity in the list is built in
record IsPlain (xs : List Entity) : Type 0 where
  plain : (e : Entity) → IsTrue (has_entity xs e) → IsFalse (is_builtin e)

nothing : IsPlain []
nothing = record { plain = λ e t. absurd (not_both t refl) }

joined : (xs ys : List Entity) → IsPlain xs → IsPlain ys → IsPlain (xs ++ ys)
joined xs ys h k = record {
  plain = λ e t. elim (or_cases (has_entity xs e) (has_entity ys e) (subst IsTrue (list_any-append (λ x. same_entity x e) xs ys) t)) [
    | inl a ↦ h.plain e a
    | inr b ↦ k.plain e b
  ];
}

one : (x : Entity) → IsFalse (is_builtin x) → IsPlain (x ∷ [])
one x plain = record {
  plain = λ e t. elim (or_cases (same_entity x e) false t) [
    | inl a ↦ subst (λ y. IsFalse (is_builtin y)) (same_entity_is x e a) plain
    | inr b ↦ absurd (not_both b refl)
  ];
}

name : (kind : EntityKind) (n : List ℕ) → IsPlain (named kind n)
name kind n = elim (is_builtin (entity kind n)) as (λ b. is_builtin (entity kind n) ≡ b → IsPlain (cond b [] (entity kind n ∷ []))) [
  | true ↦ λ t. nothing
  | false ↦ λ f. one (entity kind n) f
] refl

each : {A : Type 0} (f : A → List Entity) (xs : List A) → ((x : A) → IsPlain (f x)) → IsPlain (flat_map f xs)
each f [] all = nothing
each f (x ∷ xs) all = joined (f x) (flat_map f xs) (all x) (each f xs all)

every : {A : Type 0} (f : A → List Entity) (xs : List A) → AllByRecursion (λ x. IsPlain (f x)) xs → IsPlain (flat_map f xs)
every f [] all = nothing
every f (x ∷ xs) all = joined (f x) (flat_map f xs) all.0 (every f xs all.1)

property : (p : ObjProp) → IsPlain (of_property p)
property (props.Named p) = name kinds.ObjectProperty p
property (props.Inverse p) = name kinds.ObjectProperty p

individual : (i : Individual) → IsPlain (of_individual i)
individual (individuals.Named i) = name kinds.NamedIndividual i
individual (individuals.Anonymous label) = nothing

literal : (l : Literal) → IsPlain (of_literal l)
literal (literals.Plain text) = nothing
literal (literals.Lang text tag) = nothing
literal (literals.Typed text datatype) = name kinds.Datatype datatype

range_cases : RangeCases (λ x. IsPlain (of_range x))
range_cases = record {
  named = λ datatype. subst IsPlain (sym (eq.of_range-named datatype)) (name kinds.Datatype datatype);
  intersection = λ operands all. subst IsPlain (sym (eq.of_range-intersection operands)) (every of_range operands all);
  union = λ operands all. subst IsPlain (sym (eq.of_range-union operands)) (every of_range operands all);
  complement = λ operand h. subst IsPlain (sym (eq.of_range-complement operand)) h;
  one_of = λ values. subst IsPlain (sym (eq.of_range-one_of values)) (each of_literal values literal);
  restriction = λ datatype facets. subst IsPlain (sym (eq.of_range-restriction datatype facets)) (name kinds.Datatype datatype);
}

range : (x : Range) → IsPlain (of_range x)
range = range_induction (λ x. IsPlain (of_range x)) range_cases

optional_range : (x : Option Range) → IsPlain (of_optional of_range x)
optional_range None = nothing
optional_range (Some x) = range x

optional_class : (x : Option Class) → IfSome x (λ y. IsPlain (of_class y)) → IsPlain (of_optional of_class x)
optional_class None h = nothing
optional_class (Some x) h = h

-- a property, and what stands behind it
behind_property : (p : ObjProp) (xs : List Entity) → IsPlain xs → IsPlain (of_property p ++ xs)
behind_property p xs h = joined (of_property p) xs (property p) h

behind_name : (kind : EntityKind) (n : List ℕ) (xs : List Entity) → IsPlain xs → IsPlain (named kind n ++ xs)
behind_name kind n xs h = joined (named kind n) xs (name kind n) h

class_cases : ClassCases (λ x. IsPlain (of_class x))
class_cases = record {
  named = λ class. subst IsPlain (sym (eq.of_class-named class)) (name kinds.Class class);
  intersection = λ operands all. subst IsPlain (sym (eq.of_class-intersection operands)) (every of_class operands all);
  union = λ operands all. subst IsPlain (sym (eq.of_class-union operands)) (every of_class operands all);
  complement = λ operand h. subst IsPlain (sym (eq.of_class-complement operand)) h;
  one_of = λ is. subst IsPlain (sym (eq.of_class-one_of is)) (each of_individual is individual);
  obj_some = λ p filler h. subst IsPlain (sym (eq.of_class-obj_some p filler)) (behind_property p (of_class filler) h);
  obj_all = λ p filler h. subst IsPlain (sym (eq.of_class-obj_all p filler)) (behind_property p (of_class filler) h);
  obj_value = λ p i. subst IsPlain (sym (eq.of_class-obj_value p i)) (behind_property p (of_individual i) (individual i));
  obj_self = λ p. subst IsPlain (sym (eq.of_class-obj_self p)) (property p);
  obj_min = λ n p filler h. subst IsPlain (sym (eq.of_class-obj_min n p filler)) (behind_property p (of_optional of_class filler) (optional_class filler h));
  obj_max = λ n p filler h. subst IsPlain (sym (eq.of_class-obj_max n p filler)) (behind_property p (of_optional of_class filler) (optional_class filler h));
  obj_exact = λ n p filler h. subst IsPlain (sym (eq.of_class-obj_exact n p filler)) (behind_property p (of_optional of_class filler) (optional_class filler h));
  data_some = λ p r. subst IsPlain (sym (eq.of_class-data_some p r)) (behind_name kinds.DataProperty p (of_range r) (range r));
  data_all = λ p r. subst IsPlain (sym (eq.of_class-data_all p r)) (behind_name kinds.DataProperty p (of_range r) (range r));
  data_value = λ p v. subst IsPlain (sym (eq.of_class-data_value p v)) (behind_name kinds.DataProperty p (of_literal v) (literal v));
  data_min = λ n p r. subst IsPlain (sym (eq.of_class-data_min n p r)) (behind_name kinds.DataProperty p (of_optional of_range r) (optional_range r));
  data_max = λ n p r. subst IsPlain (sym (eq.of_class-data_max n p r)) (behind_name kinds.DataProperty p (of_optional of_range r) (optional_range r));
  data_exact = λ n p r. subst IsPlain (sym (eq.of_class-data_exact n p r)) (behind_name kinds.DataProperty p (of_optional of_range r) (optional_range r));
}

class : (x : Class) → IsPlain (of_class x)
class = class_induction (λ x. IsPlain (of_class x)) class_cases

two_classes : (a b : Class) → IsPlain (of_class a ++ of_class b)
two_classes a b = joined (of_class a) (of_class b) (class a) (class b)

two_properties : (p q : ObjProp) → IsPlain (of_property p ++ of_property q)
two_properties p q = behind_property p (of_property q) (property q)

-- what is written as (a ++ b) ++ c
three : (xs ys zs : List Entity) → IsPlain xs → IsPlain ys → IsPlain zs → IsPlain ((xs ++ ys) ++ zs)
three xs ys zs h k l = joined (xs ++ ys) zs (joined xs ys h k) l

an_axiom : (a : Axiom) → IsPlain (occurrences a)
an_axiom (axioms.SubClassOf sub super) = two_classes sub super
an_axiom (axioms.EquivalentClasses classes) = each of_class classes class
an_axiom (axioms.DisjointClasses classes) = each of_class classes class
an_axiom (axioms.DisjointUnion c parts) = behind_name kinds.Class c (flat_map of_class parts) (each of_class parts class)
an_axiom (axioms.SubObjectPropertyOf sub super) = two_properties sub super
an_axiom (axioms.SubObjectPropertyChainOf chain super) = joined (flat_map of_property chain) (of_property super) (each of_property chain property) (property super)
an_axiom (axioms.EquivalentObjectProperties properties) = each of_property properties property
an_axiom (axioms.DisjointObjectProperties properties) = each of_property properties property
an_axiom (axioms.InverseObjectProperties first second) = two_properties first second
an_axiom (axioms.ObjectPropertyDomain p c) = behind_property p (of_class c) (class c)
an_axiom (axioms.ObjectPropertyRange p c) = behind_property p (of_class c) (class c)
an_axiom (axioms.FunctionalObjectProperty p) = property p
an_axiom (axioms.InverseFunctionalObjectProperty p) = property p
an_axiom (axioms.ReflexiveObjectProperty p) = property p
an_axiom (axioms.IrreflexiveObjectProperty p) = property p
an_axiom (axioms.SymmetricObjectProperty p) = property p
an_axiom (axioms.AsymmetricObjectProperty p) = property p
an_axiom (axioms.TransitiveObjectProperty p) = property p
an_axiom (axioms.SubDataPropertyOf sub super) = behind_name kinds.DataProperty sub (named kinds.DataProperty super) (name kinds.DataProperty super)
an_axiom (axioms.EquivalentDataProperties properties) = each (named kinds.DataProperty) properties (name kinds.DataProperty)
an_axiom (axioms.DisjointDataProperties properties) = each (named kinds.DataProperty) properties (name kinds.DataProperty)
an_axiom (axioms.DataPropertyDomain p c) = behind_name kinds.DataProperty p (of_class c) (class c)
an_axiom (axioms.DataPropertyRange p r) = behind_name kinds.DataProperty p (of_range r) (range r)
an_axiom (axioms.FunctionalDataProperty p) = name kinds.DataProperty p
an_axiom (axioms.DatatypeDefinition datatype r) = behind_name kinds.Datatype datatype (of_range r) (range r)
an_axiom (axioms.HasKey c objects values) = three (of_class c) (flat_map of_property objects) (flat_map (named kinds.DataProperty) values) (class c) (each of_property objects property) (each (named kinds.DataProperty) values (name kinds.DataProperty))
an_axiom (axioms.SameIndividual is) = each of_individual is individual
an_axiom (axioms.DifferentIndividuals is) = each of_individual is individual
an_axiom (axioms.ClassAssertion c i) = joined (of_class c) (of_individual i) (class c) (individual i)
an_axiom (axioms.ObjectPropertyAssertion p source target) = three (of_property p) (of_individual source) (of_individual target) (property p) (individual source) (individual target)
an_axiom (axioms.NegativeObjectPropertyAssertion p source target) = three (of_property p) (of_individual source) (of_individual target) (property p) (individual source) (individual target)
an_axiom (axioms.DataPropertyAssertion p source target) = three (named kinds.DataProperty p) (of_individual source) (of_literal target) (name kinds.DataProperty p) (individual source) (literal target)
an_axiom (axioms.NegativeDataPropertyAssertion p source target) = three (named kinds.DataProperty p) (of_individual source) (of_literal target) (name kinds.DataProperty p) (individual source) (literal target)
an_axiom (axioms.Declaration declared) = nothing
an_axiom (axioms.AnnotationAssertion p subject value) = nothing
an_axiom (axioms.SubAnnotationPropertyOf sub super) = nothing
an_axiom (axioms.AnnotationPropertyDomain p domain) = nothing
an_axiom (axioms.AnnotationPropertyRange p r) = nothing

test_at : (seed : List Entity) (a : Axiom) (e : Entity) → has_entity seed e ≡ in_signature a e → seed_test seed e ≡ in_signature a e
test_at seed a e is = elim (either (in_signature a e)) [
  | inl t ↦ (
      let there : has_entity seed e ≡ true = is ∙ t in
      let plain : is_builtin e ≡ false = (an_axiom a).plain e t in
      let test : seed_test seed e ≡ true = rw (there, plain) refl in
      test ∙ sym t)
  | inr f ↦ (
      let there : has_entity seed e ≡ false = is ∙ f in
      let test : seed_test seed e ≡ false = rw there refl in
      test ∙ sym f)
]

-- a seed with just the entities of an axiom's signature is this signature, as tests
pub test_of_signature : (seed : List Entity) (a : Axiom) → ((e : Entity) → has_entity seed e ≡ in_signature a e) → seed_test seed ≡ in_signature a
test_of_signature seed a is = λ i. λ e. test_at seed a e (is e) i
