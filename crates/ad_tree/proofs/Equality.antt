-- The derived `==` of the trees says exactly which are equal. A comparison of an enum goes by its variants:
-- where the fields of x's variant tell what is equal to them, the whole tells what is equal to x.
use Rattle.std.proofs.Common.{◌≡◌, ℕ, ◌↔◌, Bool, true, false, ◌&&◌, List, [], ◌∷◌, Option, None, Some, IfSome, IsTrue, nat_eq, sym, ◌∙◌, ap, refl, inl, inr}
use Rattle.std.proofs.lemmas.Bool.{eqb-true}
use Rattle.std.specs.List.{AllByRecursion}
use Rattle.std.specs.Option.{option_eq}
use Rattle.std.specs.Cmp.Lexicographic.{pointwise, nat_list_eq_equiv}
use Rattle.ad_base.specs.Words.{same_text}
use denote.Struct.Field.{Field}
use denote.Struct.Values.{Values}
use denote.Enum.Declared.{Choice, declared}
use denote.Enum.Compared.{Each, by}
use denote.Enum.Bare.{same_true}
use Rattle.ad_entity.specs.declared.entities.EntityKind.{EntityKind}
use Rattle.ad_entity.specs.contracts.entities.EntityKind as kind_parts
use Rattle.ad_entity.specs.contracts.entities.EntityKindPartialEq.TheImpl as kind_impl
use Rattle.ad_entity.specs.declared.entities.Entity.{Entity}
use Rattle.ad_entity.specs.contracts.entities.EntityPartialEq.TheImpl as entity_impl
use Rattle.ad_entity.specs.contracts.entities.EntityEq.TheImpl.Laws as entity_laws
use Rattle.ad_tree.specs.declared.names.ObjProp.{ObjProp}
use Rattle.ad_tree.specs.contracts.names.ObjProp as property_parts
use Rattle.ad_tree.specs.contracts.names.ObjPropPartialEq.TheImpl as property_impl
use Rattle.ad_tree.specs.contracts.names.ObjPropEq.TheImpl.Laws as property_laws
use Rattle.ad_tree.specs.declared.names.Individual.{Individual}
use Rattle.ad_tree.specs.contracts.names.Individual as individual_parts
use Rattle.ad_tree.specs.contracts.names.IndividualPartialEq.TheImpl as individual_impl
use Rattle.ad_tree.specs.contracts.names.IndividualEq.TheImpl.Laws as individual_laws
use Rattle.ad_tree.specs.declared.literals.Literal.{Literal}
use Rattle.ad_tree.specs.contracts.literals.Literal as literal_parts
use Rattle.ad_tree.specs.contracts.literals.LiteralPartialEq.TheImpl as literal_impl
use Rattle.ad_tree.specs.contracts.literals.LiteralEq.TheImpl.Laws as literal_laws
use Rattle.ad_tree.specs.declared.literals.Facet.{Facet}
use Rattle.ad_tree.specs.contracts.literals.FacetPartialEq.TheImpl as facet_impl
use Rattle.ad_tree.specs.contracts.literals.FacetEq.TheImpl.Laws as facet_laws
use Rattle.ad_tree.specs.declared.notes.Subject.{Subject}
use Rattle.ad_tree.specs.contracts.notes.Subject as subject_parts
use Rattle.ad_tree.specs.contracts.notes.SubjectPartialEq.TheImpl as subject_impl
use Rattle.ad_tree.specs.declared.notes.Value.{Value}
use Rattle.ad_tree.specs.contracts.notes.Value as value_parts
use Rattle.ad_tree.specs.contracts.notes.ValuePartialEq.TheImpl as value_impl
use Rattle.ad_tree.specs.declared.notes.Annotation.{Annotation}
use Rattle.ad_tree.specs.contracts.notes.AnnotationPartialEq.TheImpl as annotation_impl
use Rattle.ad_tree.specs.contracts.notes.AnnotationEq.TheImpl.Laws as annotation_laws
use Rattle.ad_tree.specs.contracts.notes.AnnotationPartialEq.TheImpl.Laws as annotation_step
use Rattle.ad_tree.specs.declared.ranges.Range.{Range}
use Rattle.ad_tree.specs.contracts.ranges.Range as range_parts
use Rattle.ad_tree.specs.contracts.ranges.RangePartialEq.TheImpl as range_impl
use Rattle.ad_tree.specs.contracts.ranges.RangeEq.TheImpl.Laws as range_laws
use Rattle.ad_tree.specs.contracts.ranges.RangePartialEq.TheImpl.Laws as range_step
use Rattle.ad_tree.specs.declared.classes.Class.{Class}
use Rattle.ad_tree.specs.contracts.classes.Class as class_parts
use Rattle.ad_tree.specs.contracts.classes.ClassPartialEq.TheImpl as class_impl
use Rattle.ad_tree.specs.contracts.classes.ClassEq.TheImpl.Laws as class_laws
use Rattle.ad_tree.specs.contracts.classes.ClassPartialEq.TheImpl.Laws as class_step
use Rattle.ad_tree.specs.declared.axioms.Axiom.{Axiom}
use Rattle.ad_tree.specs.contracts.axioms.Axiom as axiom_parts
use Rattle.ad_tree.specs.contracts.axioms.AxiomPartialEq.TheImpl as axiom_impl
use Rattle.ad_tree.specs.contracts.axioms.AxiomEq.TheImpl.Laws as axiom_laws
use Rattle.ad_tree.specs.declared.axioms.Noted.{Noted}
use Rattle.ad_tree.specs.contracts.axioms.NotedPartialEq.TheImpl as noted_impl
use Rattle.ad_tree.specs.contracts.axioms.NotedEq.TheImpl.Laws as noted_laws
use Rattle.ad_tree.specs.declared.names.ObjProp.TheVariants as props
use Rattle.ad_tree.specs.declared.names.Individual.TheVariants as individuals
use Rattle.ad_tree.specs.declared.literals.Literal.TheVariants as literals
use Rattle.ad_tree.specs.declared.notes.Subject.TheVariants as subjects
use Rattle.ad_tree.specs.declared.notes.Value.TheVariants as values
use Rattle.ad_tree.specs.declared.notes.Annotation.TheViews.{roll-Annotation, out-Annotation, out-roll-Annotation, roll-out-Annotation}
use Rattle.ad_tree.specs.declared.ranges.Range.TheVariants as r
use Rattle.ad_tree.specs.declared.classes.Class.TheVariants as c
use Rattle.ad_tree.specs.declared.axioms.Axiom.TheVariants as axioms
use Rattle.ad_tree.proofs.Induction.{RangeCases, range_induction, ClassCases, class_induction, AnnotationCases, annotation_induction}

-- what the test says is equal to x is equal to it
abbrev pub Tells : {X : Type 0} → (X → X → Bool) → X → Type 0
Tells {X} same x = (y : X) → same x y ≡ true → x ≡ y

false_true : {A : Type 0} → false ≡ true → A
false_true e = absurd (let h : false ≡ true = e in cc)

left_true : (a b : Bool) → (a && b) ≡ true → a ≡ true
left_true true b h = refl
left_true false b h = h

right_true : (a b : Bool) → (a && b) ≡ true → b ≡ true
right_true true b h = h
right_true false b h = false_true h

-- lists and options, part by part
pub list_tells : {X : Type 0} (same : X → X → Bool) (xs : List X) → AllByRecursion (Tells same) xs → Tells (pointwise same) xs
list_tells same [] each [] h = refl
list_tells same [] each (y ∷ ys) h = false_true h
list_tells same (x ∷ xs) each [] h = false_true h
list_tells same (x ∷ xs) each (y ∷ ys) h =
    let e : x ≡ y = each.0 y (left_true (same x y) (pointwise same xs ys) h) in
    let f : xs ≡ ys = list_tells same xs each.1 ys (right_true (same x y) (pointwise same xs ys) h) in
    λ i. e i ∷ f i

all_tell : {X : Type 0} (same : X → X → Bool) → ((x : X) → Tells same x) → (xs : List X) → AllByRecursion (Tells same) xs
all_tell same f [] = tt
all_tell same f (x ∷ xs) = (f x, all_tell same f xs)

pub lists_tell : {X : Type 0} (same : X → X → Bool) → ((x : X) → Tells same x) → (xs : List X) → Tells (pointwise same) xs
lists_tell same f xs = list_tells same xs (all_tell same f xs)

pub option_tells : {X : Type 0} (same : X → X → Bool) (x : Option X) → IfSome x (Tells same) → Tells (option_eq same) x
option_tells same None each None h = refl
option_tells same None each (Some y) h = false_true h
option_tells same (Some x) each None h = false_true h
option_tells same (Some x) each (Some y) h = ap Some (each y h)

some_tells : {X : Type 0} (same : X → X → Bool) → ((x : X) → Tells same x) → (x : Option X) → IfSome x (Tells same)
some_tells same f None = tt
some_tells same f (Some x) = f x

pub options_tell : {X : Type 0} (same : X → X → Bool) → ((x : X) → Tells same x) → (x : Option X) → Tells (option_eq same) x
options_tell same f x = option_tells same x (some_tells same f x)

number_tells : (x : ℕ) → Tells nat_eq x
number_tells x y h = eqb-true x y h

pub text_tells : (xs : List ℕ) → Tells same_text xs
text_tells = lists_tell nat_eq number_tells

-- the fields of the variant at which the choice stands tell
abbrev Told : (Fss : List (List Field)) → Each Bool Fss → Choice Fss → Type 0
Told [] es c = absurd c
Told (Fs ∷ Fss) es (inl x) = (y : Values Fs) → es.0 x y ≡ true → x ≡ y
Told (Fs ∷ Fss) es (inr c) = Told Fss es.1 c

choice_tells : (Fss : List (List Field)) (es : Each Bool Fss) (c : Choice Fss) → Told Fss es c → Tells (by false false Fss es) c
choice_tells [] es c t d h = absurd c
choice_tells (Fs ∷ Fss) es (inl x) t (inl y) h = ap inl (t y h)
choice_tells (Fs ∷ Fss) es (inl x) t (inr d) h = false_true h
choice_tells (Fs ∷ Fss) es (inr c) t (inl y) h = false_true h
choice_tells (Fs ∷ Fss) es (inr c) t (inr d) h = ap inr (choice_tells Fss es.1 c t d h)

abbrev pub kind_eq : EntityKind → EntityKind → Bool
kind_eq = kind_impl.ghosts.eq

kind_eq-tells : (x : EntityKind) → Tells kind_eq x
kind_eq-tells x y h = same_true (declared kind_parts.enum) tt x y h

abbrev pub entity_eq : Entity → Entity → Bool
entity_eq = entity_impl.ghosts.eq

pub entity_eq-tells : (x : Entity) → Tells entity_eq x
entity_eq-tells x y h =
    let e0 : x.kind ≡ y.kind = kind_eq-tells x.kind y.kind (left_true (kind_eq x.kind y.kind) (same_text x.name y.name) h) in
    let e1 : x.name ≡ y.name = text_tells x.name y.name (right_true (kind_eq x.kind y.kind) (same_text x.name y.name) h) in
    λ i. record { kind = e0 i; name = e1 i }

abbrev pub property_eq : ObjProp → ObjProp → Bool
property_eq = property_impl.ghosts.eq

abbrev property_fields : Each Bool property_parts.the_parts
property_fields = (
  λ x y. same_text x.0 y.0,
  (
    λ x y. same_text x.0 y.0,
    tt,
  ),
)

property_told : (x : ObjProp) → Told property_parts.the_parts property_fields (property_parts.as_values x)
property_told (props.Named name) = λ y h. let e0 : name ≡ y.0 = text_tells name y.0 h in λ i. (e0 i, tt)
property_told (props.Inverse name) = λ y h. let e0 : name ≡ y.0 = text_tells name y.0 h in λ i. (e0 i, tt)

pub property_eq-tells : (x : ObjProp) → Tells property_eq x
property_eq-tells x y h =
    let e : property_parts.as_values x ≡ property_parts.as_values y = choice_tells property_parts.the_parts property_fields (property_parts.as_values x) (property_told x) (property_parts.as_values y) h in
    sym (property_parts.the_eta x) ∙ ap property_parts.the_make e ∙ property_parts.the_eta y

abbrev pub individual_eq : Individual → Individual → Bool
individual_eq = individual_impl.ghosts.eq

abbrev individual_fields : Each Bool individual_parts.the_parts
individual_fields = (
  λ x y. same_text x.0 y.0,
  (
    λ x y. same_text x.0 y.0,
    tt,
  ),
)

individual_told : (x : Individual) → Told individual_parts.the_parts individual_fields (individual_parts.as_values x)
individual_told (individuals.Named name) = λ y h. let e0 : name ≡ y.0 = text_tells name y.0 h in λ i. (e0 i, tt)
individual_told (individuals.Anonymous label) = λ y h. let e0 : label ≡ y.0 = text_tells label y.0 h in λ i. (e0 i, tt)

pub individual_eq-tells : (x : Individual) → Tells individual_eq x
individual_eq-tells x y h =
    let e : individual_parts.as_values x ≡ individual_parts.as_values y = choice_tells individual_parts.the_parts individual_fields (individual_parts.as_values x) (individual_told x) (individual_parts.as_values y) h in
    sym (individual_parts.the_eta x) ∙ ap individual_parts.the_make e ∙ individual_parts.the_eta y

abbrev pub literal_eq : Literal → Literal → Bool
literal_eq = literal_impl.ghosts.eq

abbrev literal_fields : Each Bool literal_parts.the_parts
literal_fields = (
  λ x y. same_text x.0 y.0,
  (
    λ x y. same_text x.0 y.0 && same_text x.1.0 y.1.0,
    (
      λ x y. same_text x.0 y.0 && same_text x.1.0 y.1.0,
      tt,
    ),
  ),
)

literal_told : (x : Literal) → Told literal_parts.the_parts literal_fields (literal_parts.as_values x)
literal_told (literals.Plain text) = λ y h. let e0 : text ≡ y.0 = text_tells text y.0 h in λ i. (e0 i, tt)
literal_told (literals.Lang text tag) = λ y h. let e0 : text ≡ y.0 = text_tells text y.0 (left_true (same_text text y.0) (same_text tag y.1.0) h) in let e1 : tag ≡ y.1.0 = text_tells tag y.1.0 (right_true (same_text text y.0) (same_text tag y.1.0) h) in λ i. (e0 i, (e1 i, tt))
literal_told (literals.Typed text datatype) = λ y h. let e0 : text ≡ y.0 = text_tells text y.0 (left_true (same_text text y.0) (same_text datatype y.1.0) h) in let e1 : datatype ≡ y.1.0 = text_tells datatype y.1.0 (right_true (same_text text y.0) (same_text datatype y.1.0) h) in λ i. (e0 i, (e1 i, tt))

pub literal_eq-tells : (x : Literal) → Tells literal_eq x
literal_eq-tells x y h =
    let e : literal_parts.as_values x ≡ literal_parts.as_values y = choice_tells literal_parts.the_parts literal_fields (literal_parts.as_values x) (literal_told x) (literal_parts.as_values y) h in
    sym (literal_parts.the_eta x) ∙ ap literal_parts.the_make e ∙ literal_parts.the_eta y

abbrev pub facet_eq : Facet → Facet → Bool
facet_eq = facet_impl.ghosts.eq

pub facet_eq-tells : (x : Facet) → Tells facet_eq x
facet_eq-tells x y h =
    let e0 : x.facet ≡ y.facet = text_tells x.facet y.facet (left_true (same_text x.facet y.facet) (literal_eq x.value y.value) h) in
    let e1 : x.value ≡ y.value = literal_eq-tells x.value y.value (right_true (same_text x.facet y.facet) (literal_eq x.value y.value) h) in
    λ i. record { facet = e0 i; value = e1 i }

abbrev pub subject_eq : Subject → Subject → Bool
subject_eq = subject_impl.ghosts.eq

abbrev subject_fields : Each Bool subject_parts.the_parts
subject_fields = (
  λ x y. same_text x.0 y.0,
  (
    λ x y. same_text x.0 y.0,
    tt,
  ),
)

subject_told : (x : Subject) → Told subject_parts.the_parts subject_fields (subject_parts.as_values x)
subject_told (subjects.Iri iri) = λ y h. let e0 : iri ≡ y.0 = text_tells iri y.0 h in λ i. (e0 i, tt)
subject_told (subjects.Anonymous label) = λ y h. let e0 : label ≡ y.0 = text_tells label y.0 h in λ i. (e0 i, tt)

pub subject_eq-tells : (x : Subject) → Tells subject_eq x
subject_eq-tells x y h =
    let e : subject_parts.as_values x ≡ subject_parts.as_values y = choice_tells subject_parts.the_parts subject_fields (subject_parts.as_values x) (subject_told x) (subject_parts.as_values y) h in
    sym (subject_parts.the_eta x) ∙ ap subject_parts.the_make e ∙ subject_parts.the_eta y

abbrev pub value_eq : Value → Value → Bool
value_eq = value_impl.ghosts.eq

abbrev value_fields : Each Bool value_parts.the_parts
value_fields = (
  λ x y. same_text x.0 y.0,
  (
    λ x y. same_text x.0 y.0,
    (
      λ x y. literal_eq x.0 y.0,
      tt,
    ),
  ),
)

value_told : (x : Value) → Told value_parts.the_parts value_fields (value_parts.as_values x)
value_told (values.Iri iri) = λ y h. let e0 : iri ≡ y.0 = text_tells iri y.0 h in λ i. (e0 i, tt)
value_told (values.Anonymous label) = λ y h. let e0 : label ≡ y.0 = text_tells label y.0 h in λ i. (e0 i, tt)
value_told (values.Literal literal) = λ y h. let e0 : literal ≡ y.0 = literal_eq-tells literal y.0 h in λ i. (e0 i, tt)

pub value_eq-tells : (x : Value) → Tells value_eq x
value_eq-tells x y h =
    let e : value_parts.as_values x ≡ value_parts.as_values y = choice_tells value_parts.the_parts value_fields (value_parts.as_values x) (value_told x) (value_parts.as_values y) h in
    sym (value_parts.the_eta x) ∙ ap value_parts.the_make e ∙ value_parts.the_eta y

abbrev pub range_eq : Range → Range → Bool
range_eq = range_impl.ghosts.eq

abbrev range_fields : Each Bool range_parts.the_parts
range_fields = (
  λ x y. same_text x.0 y.0,
  (
    λ x y. (pointwise range_eq) x.0 y.0,
    (
      λ x y. (pointwise range_eq) x.0 y.0,
      (
        λ x y. range_eq x.0 y.0,
        (
          λ x y. (pointwise literal_eq) x.0 y.0,
          (
            λ x y. same_text x.0 y.0 && (pointwise facet_eq) x.1.0 y.1.0,
            tt,
          ),
        ),
      ),
    ),
  ),
)

range_from : (x : Range) (v : Choice range_parts.the_parts) → range_parts.as_values x ≡ v → Told range_parts.the_parts range_fields v → Tells range_eq x
range_from x v e t y h =
    let f : v ≡ range_parts.as_values y = choice_tells range_parts.the_parts range_fields v t (range_parts.as_values y) (ap (λ z. by false false range_parts.the_parts range_fields z (range_parts.as_values y)) (sym e) ∙ sym (range_step.is x y) ∙ h) in
    sym (range_parts.the_eta x) ∙ ap range_parts.the_make (e ∙ f) ∙ range_parts.the_eta y

range_cases : RangeCases (Tells range_eq)
range_cases = record {
  named = λ datatype. range_from (r.Named datatype) (inl (datatype, tt)) (rw (r.outs-Named datatype) refl) (λ y h. let e0 : datatype ≡ y.0 = text_tells datatype y.0 h in λ i. (e0 i, tt));
  intersection = λ operands ih. range_from (r.And operands) (inr (inl (operands, tt))) (rw (r.outs-And operands) refl) (λ y h. let e0 : operands ≡ y.0 = list_tells range_eq operands ih y.0 h in λ i. (e0 i, tt));
  union = λ operands ih. range_from (r.Or operands) (inr (inr (inl (operands, tt)))) (rw (r.outs-Or operands) refl) (λ y h. let e0 : operands ≡ y.0 = list_tells range_eq operands ih y.0 h in λ i. (e0 i, tt));
  complement = λ operand ih. range_from (r.Not operand) (inr (inr (inr (inl (operand, tt))))) (rw (r.outs-Not operand) refl) (λ y h. let e0 : operand ≡ y.0 = ih y.0 h in λ i. (e0 i, tt));
  one_of = λ values. range_from (r.OneOf values) (inr (inr (inr (inr (inl (values, tt)))))) (rw (r.outs-OneOf values) refl) (λ y h. let e0 : values ≡ y.0 = lists_tell literal_eq literal_eq-tells values y.0 h in λ i. (e0 i, tt));
  restriction = λ datatype facets. range_from (r.Restriction datatype facets) (inr (inr (inr (inr (inr (inl (datatype, (facets, tt)))))))) (rw (r.outs-Restriction datatype facets) refl) (λ y h. let e0 : datatype ≡ y.0 = text_tells datatype y.0 (left_true (same_text datatype y.0) ((pointwise facet_eq) facets y.1.0) h) in let e1 : facets ≡ y.1.0 = lists_tell facet_eq facet_eq-tells facets y.1.0 (right_true (same_text datatype y.0) ((pointwise facet_eq) facets y.1.0) h) in λ i. (e0 i, (e1 i, tt)));
}

pub range_eq-tells : (x : Range) → Tells range_eq x
range_eq-tells = range_induction (Tells range_eq) range_cases

abbrev pub class_eq : Class → Class → Bool
class_eq = class_impl.ghosts.eq

abbrev class_fields : Each Bool class_parts.the_parts
class_fields = (
  λ x y. same_text x.0 y.0,
  (
    λ x y. (pointwise class_eq) x.0 y.0,
    (
      λ x y. (pointwise class_eq) x.0 y.0,
      (
        λ x y. class_eq x.0 y.0,
        (
          λ x y. (pointwise individual_eq) x.0 y.0,
          (
            λ x y. property_eq x.0 y.0 && class_eq x.1.0 y.1.0,
            (
              λ x y. property_eq x.0 y.0 && class_eq x.1.0 y.1.0,
              (
                λ x y. property_eq x.0 y.0 && individual_eq x.1.0 y.1.0,
                (
                  λ x y. property_eq x.0 y.0,
                  (
                    λ x y. nat_eq x.0 y.0 && (property_eq x.1.0 y.1.0 && (option_eq class_eq) x.1.1.0 y.1.1.0),
                    (
                      λ x y. nat_eq x.0 y.0 && (property_eq x.1.0 y.1.0 && (option_eq class_eq) x.1.1.0 y.1.1.0),
                      (
                        λ x y. nat_eq x.0 y.0 && (property_eq x.1.0 y.1.0 && (option_eq class_eq) x.1.1.0 y.1.1.0),
                        (
                          λ x y. same_text x.0 y.0 && range_eq x.1.0 y.1.0,
                          (
                            λ x y. same_text x.0 y.0 && range_eq x.1.0 y.1.0,
                            (
                              λ x y. same_text x.0 y.0 && literal_eq x.1.0 y.1.0,
                              (
                                λ x y. nat_eq x.0 y.0 && (same_text x.1.0 y.1.0 && (option_eq range_eq) x.1.1.0 y.1.1.0),
                                (
                                  λ x y. nat_eq x.0 y.0 && (same_text x.1.0 y.1.0 && (option_eq range_eq) x.1.1.0 y.1.1.0),
                                  (
                                    λ x y. nat_eq x.0 y.0 && (same_text x.1.0 y.1.0 && (option_eq range_eq) x.1.1.0 y.1.1.0),
                                    tt,
                                  ),
                                ),
                              ),
                            ),
                          ),
                        ),
                      ),
                    ),
                  ),
                ),
              ),
            ),
          ),
        ),
      ),
    ),
  ),
)

class_from : (x : Class) (v : Choice class_parts.the_parts) → class_parts.as_values x ≡ v → Told class_parts.the_parts class_fields v → Tells class_eq x
class_from x v e t y h =
    let f : v ≡ class_parts.as_values y = choice_tells class_parts.the_parts class_fields v t (class_parts.as_values y) (ap (λ z. by false false class_parts.the_parts class_fields z (class_parts.as_values y)) (sym e) ∙ sym (class_step.is x y) ∙ h) in
    sym (class_parts.the_eta x) ∙ ap class_parts.the_make (e ∙ f) ∙ class_parts.the_eta y

class_values-obj_min : (n : ℕ) (property : ObjProp) (filler : Option Class) → class_parts.as_values (c.ObjMin n property filler) ≡ (inr (inr (inr (inr (inr (inr (inr (inr (inr (inl (n, (property, (filler, tt)))))))))))))
class_values-obj_min n property None = rw (c.outs-ObjMin n property None) refl
class_values-obj_min n property (Some filler) = rw (c.outs-ObjMin n property (Some filler)) refl

class_values-obj_max : (n : ℕ) (property : ObjProp) (filler : Option Class) → class_parts.as_values (c.ObjMax n property filler) ≡ (inr (inr (inr (inr (inr (inr (inr (inr (inr (inr (inl (n, (property, (filler, tt))))))))))))))
class_values-obj_max n property None = rw (c.outs-ObjMax n property None) refl
class_values-obj_max n property (Some filler) = rw (c.outs-ObjMax n property (Some filler)) refl

class_values-obj_exact : (n : ℕ) (property : ObjProp) (filler : Option Class) → class_parts.as_values (c.ObjExact n property filler) ≡ (inr (inr (inr (inr (inr (inr (inr (inr (inr (inr (inr (inl (n, (property, (filler, tt)))))))))))))))
class_values-obj_exact n property None = rw (c.outs-ObjExact n property None) refl
class_values-obj_exact n property (Some filler) = rw (c.outs-ObjExact n property (Some filler)) refl

class_cases : ClassCases (Tells class_eq)
class_cases = record {
  named = λ class. class_from (c.Named class) (inl (class, tt)) (rw (c.outs-Named class) refl) (λ y h. let e0 : class ≡ y.0 = text_tells class y.0 h in λ i. (e0 i, tt));
  intersection = λ operands ih. class_from (c.And operands) (inr (inl (operands, tt))) (rw (c.outs-And operands) refl) (λ y h. let e0 : operands ≡ y.0 = list_tells class_eq operands ih y.0 h in λ i. (e0 i, tt));
  union = λ operands ih. class_from (c.Or operands) (inr (inr (inl (operands, tt)))) (rw (c.outs-Or operands) refl) (λ y h. let e0 : operands ≡ y.0 = list_tells class_eq operands ih y.0 h in λ i. (e0 i, tt));
  complement = λ operand ih. class_from (c.Not operand) (inr (inr (inr (inl (operand, tt))))) (rw (c.outs-Not operand) refl) (λ y h. let e0 : operand ≡ y.0 = ih y.0 h in λ i. (e0 i, tt));
  one_of = λ individuals. class_from (c.OneOf individuals) (inr (inr (inr (inr (inl (individuals, tt)))))) (rw (c.outs-OneOf individuals) refl) (λ y h. let e0 : individuals ≡ y.0 = lists_tell individual_eq individual_eq-tells individuals y.0 h in λ i. (e0 i, tt));
  obj_some = λ property filler ih. class_from (c.ObjSome property filler) (inr (inr (inr (inr (inr (inl (property, (filler, tt)))))))) (rw (c.outs-ObjSome property filler) refl) (λ y h. let e0 : property ≡ y.0 = property_eq-tells property y.0 (left_true (property_eq property y.0) (class_eq filler y.1.0) h) in let e1 : filler ≡ y.1.0 = ih y.1.0 (right_true (property_eq property y.0) (class_eq filler y.1.0) h) in λ i. (e0 i, (e1 i, tt)));
  obj_all = λ property filler ih. class_from (c.ObjAll property filler) (inr (inr (inr (inr (inr (inr (inl (property, (filler, tt))))))))) (rw (c.outs-ObjAll property filler) refl) (λ y h. let e0 : property ≡ y.0 = property_eq-tells property y.0 (left_true (property_eq property y.0) (class_eq filler y.1.0) h) in let e1 : filler ≡ y.1.0 = ih y.1.0 (right_true (property_eq property y.0) (class_eq filler y.1.0) h) in λ i. (e0 i, (e1 i, tt)));
  obj_value = λ property individual. class_from (c.ObjValue property individual) (inr (inr (inr (inr (inr (inr (inr (inl (property, (individual, tt)))))))))) (rw (c.outs-ObjValue property individual) refl) (λ y h. let e0 : property ≡ y.0 = property_eq-tells property y.0 (left_true (property_eq property y.0) (individual_eq individual y.1.0) h) in let e1 : individual ≡ y.1.0 = individual_eq-tells individual y.1.0 (right_true (property_eq property y.0) (individual_eq individual y.1.0) h) in λ i. (e0 i, (e1 i, tt)));
  obj_self = λ property. class_from (c.ObjSelf property) (inr (inr (inr (inr (inr (inr (inr (inr (inl (property, tt)))))))))) (rw (c.outs-ObjSelf property) refl) (λ y h. let e0 : property ≡ y.0 = property_eq-tells property y.0 h in λ i. (e0 i, tt));
  obj_min = λ n property filler ih. class_from (c.ObjMin n property filler) (inr (inr (inr (inr (inr (inr (inr (inr (inr (inl (n, (property, (filler, tt))))))))))))) (class_values-obj_min n property filler) (λ y h. let e0 : n ≡ y.0 = number_tells n y.0 (left_true (nat_eq n y.0) (property_eq property y.1.0 && (option_eq class_eq) filler y.1.1.0) h) in let e1 : property ≡ y.1.0 = property_eq-tells property y.1.0 (left_true (property_eq property y.1.0) ((option_eq class_eq) filler y.1.1.0) (right_true (nat_eq n y.0) (property_eq property y.1.0 && (option_eq class_eq) filler y.1.1.0) h)) in let e2 : filler ≡ y.1.1.0 = option_tells class_eq filler ih y.1.1.0 (right_true (property_eq property y.1.0) ((option_eq class_eq) filler y.1.1.0) (right_true (nat_eq n y.0) (property_eq property y.1.0 && (option_eq class_eq) filler y.1.1.0) h)) in λ i. (e0 i, (e1 i, (e2 i, tt))));
  obj_max = λ n property filler ih. class_from (c.ObjMax n property filler) (inr (inr (inr (inr (inr (inr (inr (inr (inr (inr (inl (n, (property, (filler, tt)))))))))))))) (class_values-obj_max n property filler) (λ y h. let e0 : n ≡ y.0 = number_tells n y.0 (left_true (nat_eq n y.0) (property_eq property y.1.0 && (option_eq class_eq) filler y.1.1.0) h) in let e1 : property ≡ y.1.0 = property_eq-tells property y.1.0 (left_true (property_eq property y.1.0) ((option_eq class_eq) filler y.1.1.0) (right_true (nat_eq n y.0) (property_eq property y.1.0 && (option_eq class_eq) filler y.1.1.0) h)) in let e2 : filler ≡ y.1.1.0 = option_tells class_eq filler ih y.1.1.0 (right_true (property_eq property y.1.0) ((option_eq class_eq) filler y.1.1.0) (right_true (nat_eq n y.0) (property_eq property y.1.0 && (option_eq class_eq) filler y.1.1.0) h)) in λ i. (e0 i, (e1 i, (e2 i, tt))));
  obj_exact = λ n property filler ih. class_from (c.ObjExact n property filler) (inr (inr (inr (inr (inr (inr (inr (inr (inr (inr (inr (inl (n, (property, (filler, tt))))))))))))))) (class_values-obj_exact n property filler) (λ y h. let e0 : n ≡ y.0 = number_tells n y.0 (left_true (nat_eq n y.0) (property_eq property y.1.0 && (option_eq class_eq) filler y.1.1.0) h) in let e1 : property ≡ y.1.0 = property_eq-tells property y.1.0 (left_true (property_eq property y.1.0) ((option_eq class_eq) filler y.1.1.0) (right_true (nat_eq n y.0) (property_eq property y.1.0 && (option_eq class_eq) filler y.1.1.0) h)) in let e2 : filler ≡ y.1.1.0 = option_tells class_eq filler ih y.1.1.0 (right_true (property_eq property y.1.0) ((option_eq class_eq) filler y.1.1.0) (right_true (nat_eq n y.0) (property_eq property y.1.0 && (option_eq class_eq) filler y.1.1.0) h)) in λ i. (e0 i, (e1 i, (e2 i, tt))));
  data_some = λ property range. class_from (c.DataSome property range) (inr (inr (inr (inr (inr (inr (inr (inr (inr (inr (inr (inr (inl (property, (range, tt))))))))))))))) (rw (c.outs-DataSome property range) refl) (λ y h. let e0 : property ≡ y.0 = text_tells property y.0 (left_true (same_text property y.0) (range_eq range y.1.0) h) in let e1 : range ≡ y.1.0 = range_eq-tells range y.1.0 (right_true (same_text property y.0) (range_eq range y.1.0) h) in λ i. (e0 i, (e1 i, tt)));
  data_all = λ property range. class_from (c.DataAll property range) (inr (inr (inr (inr (inr (inr (inr (inr (inr (inr (inr (inr (inr (inl (property, (range, tt)))))))))))))))) (rw (c.outs-DataAll property range) refl) (λ y h. let e0 : property ≡ y.0 = text_tells property y.0 (left_true (same_text property y.0) (range_eq range y.1.0) h) in let e1 : range ≡ y.1.0 = range_eq-tells range y.1.0 (right_true (same_text property y.0) (range_eq range y.1.0) h) in λ i. (e0 i, (e1 i, tt)));
  data_value = λ property value. class_from (c.DataValue property value) (inr (inr (inr (inr (inr (inr (inr (inr (inr (inr (inr (inr (inr (inr (inl (property, (value, tt))))))))))))))))) (rw (c.outs-DataValue property value) refl) (λ y h. let e0 : property ≡ y.0 = text_tells property y.0 (left_true (same_text property y.0) (literal_eq value y.1.0) h) in let e1 : value ≡ y.1.0 = literal_eq-tells value y.1.0 (right_true (same_text property y.0) (literal_eq value y.1.0) h) in λ i. (e0 i, (e1 i, tt)));
  data_min = λ n property range. class_from (c.DataMin n property range) (inr (inr (inr (inr (inr (inr (inr (inr (inr (inr (inr (inr (inr (inr (inr (inl (n, (property, (range, tt))))))))))))))))))) (rw (c.outs-DataMin n property range) refl) (λ y h. let e0 : n ≡ y.0 = number_tells n y.0 (left_true (nat_eq n y.0) (same_text property y.1.0 && (option_eq range_eq) range y.1.1.0) h) in let e1 : property ≡ y.1.0 = text_tells property y.1.0 (left_true (same_text property y.1.0) ((option_eq range_eq) range y.1.1.0) (right_true (nat_eq n y.0) (same_text property y.1.0 && (option_eq range_eq) range y.1.1.0) h)) in let e2 : range ≡ y.1.1.0 = options_tell range_eq range_eq-tells range y.1.1.0 (right_true (same_text property y.1.0) ((option_eq range_eq) range y.1.1.0) (right_true (nat_eq n y.0) (same_text property y.1.0 && (option_eq range_eq) range y.1.1.0) h)) in λ i. (e0 i, (e1 i, (e2 i, tt))));
  data_max = λ n property range. class_from (c.DataMax n property range) (inr (inr (inr (inr (inr (inr (inr (inr (inr (inr (inr (inr (inr (inr (inr (inr (inl (n, (property, (range, tt)))))))))))))))))))) (rw (c.outs-DataMax n property range) refl) (λ y h. let e0 : n ≡ y.0 = number_tells n y.0 (left_true (nat_eq n y.0) (same_text property y.1.0 && (option_eq range_eq) range y.1.1.0) h) in let e1 : property ≡ y.1.0 = text_tells property y.1.0 (left_true (same_text property y.1.0) ((option_eq range_eq) range y.1.1.0) (right_true (nat_eq n y.0) (same_text property y.1.0 && (option_eq range_eq) range y.1.1.0) h)) in let e2 : range ≡ y.1.1.0 = options_tell range_eq range_eq-tells range y.1.1.0 (right_true (same_text property y.1.0) ((option_eq range_eq) range y.1.1.0) (right_true (nat_eq n y.0) (same_text property y.1.0 && (option_eq range_eq) range y.1.1.0) h)) in λ i. (e0 i, (e1 i, (e2 i, tt))));
  data_exact = λ n property range. class_from (c.DataExact n property range) (inr (inr (inr (inr (inr (inr (inr (inr (inr (inr (inr (inr (inr (inr (inr (inr (inr (inl (n, (property, (range, tt))))))))))))))))))))) (rw (c.outs-DataExact n property range) refl) (λ y h. let e0 : n ≡ y.0 = number_tells n y.0 (left_true (nat_eq n y.0) (same_text property y.1.0 && (option_eq range_eq) range y.1.1.0) h) in let e1 : property ≡ y.1.0 = text_tells property y.1.0 (left_true (same_text property y.1.0) ((option_eq range_eq) range y.1.1.0) (right_true (nat_eq n y.0) (same_text property y.1.0 && (option_eq range_eq) range y.1.1.0) h)) in let e2 : range ≡ y.1.1.0 = options_tell range_eq range_eq-tells range y.1.1.0 (right_true (same_text property y.1.0) ((option_eq range_eq) range y.1.1.0) (right_true (nat_eq n y.0) (same_text property y.1.0 && (option_eq range_eq) range y.1.1.0) h)) in λ i. (e0 i, (e1 i, (e2 i, tt))));
}

pub class_eq-tells : (x : Class) → Tells class_eq x
class_eq-tells = class_induction (Tells class_eq) class_cases

abbrev pub annotation_eq : Annotation → Annotation → Bool
annotation_eq = annotation_impl.ghosts.eq

annotation_cases : AnnotationCases (Tells annotation_eq)
annotation_cases = record {
  annotation = λ notes property value ih y h.
      let g : (pointwise annotation_eq notes (out-Annotation y).notes && (same_text property (out-Annotation y).property && value_eq value (out-Annotation y).value)) ≡ true
      = rw (out-roll-Annotation (record { notes = notes; property = property; value = value })) at (sym (annotation_step.is (roll-Annotation (record { notes = notes; property = property; value = value })) y) ∙ h) in
      let e : notes ≡ (out-Annotation y).notes = list_tells annotation_eq notes ih (out-Annotation y).notes (left_true (pointwise annotation_eq notes (out-Annotation y).notes) _ g) in
      let k : (same_text property (out-Annotation y).property && value_eq value (out-Annotation y).value) ≡ true = right_true (pointwise annotation_eq notes (out-Annotation y).notes) _ g in
      let f : property ≡ (out-Annotation y).property = text_tells property (out-Annotation y).property (left_true (same_text property (out-Annotation y).property) _ k) in
      let v : value ≡ (out-Annotation y).value = value_eq-tells value (out-Annotation y).value (right_true (same_text property (out-Annotation y).property) _ k) in
      ap roll-Annotation (λ i. record { notes = e i; property = f i; value = v i }) ∙ roll-out-Annotation y;
}

pub annotation_eq-tells : (x : Annotation) → Tells annotation_eq x
annotation_eq-tells = annotation_induction (Tells annotation_eq) annotation_cases

abbrev pub axiom_eq : Axiom → Axiom → Bool
axiom_eq = axiom_impl.ghosts.eq

abbrev axiom_fields : Each Bool axiom_parts.the_parts
axiom_fields = (
  λ x y. class_eq x.0 y.0 && class_eq x.1.0 y.1.0,
  (
    λ x y. (pointwise class_eq) x.0 y.0,
    (
      λ x y. (pointwise class_eq) x.0 y.0,
      (
        λ x y. same_text x.0 y.0 && (pointwise class_eq) x.1.0 y.1.0,
        (
          λ x y. property_eq x.0 y.0 && property_eq x.1.0 y.1.0,
          (
            λ x y. (pointwise property_eq) x.0 y.0 && property_eq x.1.0 y.1.0,
            (
              λ x y. (pointwise property_eq) x.0 y.0,
              (
                λ x y. (pointwise property_eq) x.0 y.0,
                (
                  λ x y. property_eq x.0 y.0 && property_eq x.1.0 y.1.0,
                  (
                    λ x y. property_eq x.0 y.0 && class_eq x.1.0 y.1.0,
                    (
                      λ x y. property_eq x.0 y.0 && class_eq x.1.0 y.1.0,
                      (
                        λ x y. property_eq x.0 y.0,
                        (
                          λ x y. property_eq x.0 y.0,
                          (
                            λ x y. property_eq x.0 y.0,
                            (
                              λ x y. property_eq x.0 y.0,
                              (
                                λ x y. property_eq x.0 y.0,
                                (
                                  λ x y. property_eq x.0 y.0,
                                  (
                                    λ x y. property_eq x.0 y.0,
                                    (
                                      λ x y. same_text x.0 y.0 && same_text x.1.0 y.1.0,
                                      (
                                        λ x y. (pointwise same_text) x.0 y.0,
                                        (
                                          λ x y. (pointwise same_text) x.0 y.0,
                                          (
                                            λ x y. same_text x.0 y.0 && class_eq x.1.0 y.1.0,
                                            (
                                              λ x y. same_text x.0 y.0 && range_eq x.1.0 y.1.0,
                                              (
                                                λ x y. same_text x.0 y.0,
                                                (
                                                  λ x y. same_text x.0 y.0 && range_eq x.1.0 y.1.0,
                                                  (
                                                    λ x y. class_eq x.0 y.0 && ((pointwise property_eq) x.1.0 y.1.0 && (pointwise same_text) x.1.1.0 y.1.1.0),
                                                    (
                                                      λ x y. (pointwise individual_eq) x.0 y.0,
                                                      (
                                                        λ x y. (pointwise individual_eq) x.0 y.0,
                                                        (
                                                          λ x y. class_eq x.0 y.0 && individual_eq x.1.0 y.1.0,
                                                          (
                                                            λ x y. property_eq x.0 y.0 && (individual_eq x.1.0 y.1.0 && individual_eq x.1.1.0 y.1.1.0),
                                                            (
                                                              λ x y. property_eq x.0 y.0 && (individual_eq x.1.0 y.1.0 && individual_eq x.1.1.0 y.1.1.0),
                                                              (
                                                                λ x y. same_text x.0 y.0 && (individual_eq x.1.0 y.1.0 && literal_eq x.1.1.0 y.1.1.0),
                                                                (
                                                                  λ x y. same_text x.0 y.0 && (individual_eq x.1.0 y.1.0 && literal_eq x.1.1.0 y.1.1.0),
                                                                  (
                                                                    λ x y. entity_eq x.0 y.0,
                                                                    (
                                                                      λ x y. same_text x.0 y.0 && (subject_eq x.1.0 y.1.0 && value_eq x.1.1.0 y.1.1.0),
                                                                      (
                                                                        λ x y. same_text x.0 y.0 && same_text x.1.0 y.1.0,
                                                                        (
                                                                          λ x y. same_text x.0 y.0 && same_text x.1.0 y.1.0,
                                                                          (
                                                                            λ x y. same_text x.0 y.0 && same_text x.1.0 y.1.0,
                                                                            tt,
                                                                          ),
                                                                        ),
                                                                      ),
                                                                    ),
                                                                  ),
                                                                ),
                                                              ),
                                                            ),
                                                          ),
                                                        ),
                                                      ),
                                                    ),
                                                  ),
                                                ),
                                              ),
                                            ),
                                          ),
                                        ),
                                      ),
                                    ),
                                  ),
                                ),
                              ),
                            ),
                          ),
                        ),
                      ),
                    ),
                  ),
                ),
              ),
            ),
          ),
        ),
      ),
    ),
  ),
)

axiom_told : (x : Axiom) → Told axiom_parts.the_parts axiom_fields (axiom_parts.as_values x)
axiom_told (axioms.SubClassOf sub super) = λ y h. let e0 : sub ≡ y.0 = class_eq-tells sub y.0 (left_true (class_eq sub y.0) (class_eq super y.1.0) h) in let e1 : super ≡ y.1.0 = class_eq-tells super y.1.0 (right_true (class_eq sub y.0) (class_eq super y.1.0) h) in λ i. (e0 i, (e1 i, tt))
axiom_told (axioms.EquivalentClasses classes) = λ y h. let e0 : classes ≡ y.0 = lists_tell class_eq class_eq-tells classes y.0 h in λ i. (e0 i, tt)
axiom_told (axioms.DisjointClasses classes) = λ y h. let e0 : classes ≡ y.0 = lists_tell class_eq class_eq-tells classes y.0 h in λ i. (e0 i, tt)
axiom_told (axioms.DisjointUnion class parts) = λ y h. let e0 : class ≡ y.0 = text_tells class y.0 (left_true (same_text class y.0) ((pointwise class_eq) parts y.1.0) h) in let e1 : parts ≡ y.1.0 = lists_tell class_eq class_eq-tells parts y.1.0 (right_true (same_text class y.0) ((pointwise class_eq) parts y.1.0) h) in λ i. (e0 i, (e1 i, tt))
axiom_told (axioms.SubObjectPropertyOf sub super) = λ y h. let e0 : sub ≡ y.0 = property_eq-tells sub y.0 (left_true (property_eq sub y.0) (property_eq super y.1.0) h) in let e1 : super ≡ y.1.0 = property_eq-tells super y.1.0 (right_true (property_eq sub y.0) (property_eq super y.1.0) h) in λ i. (e0 i, (e1 i, tt))
axiom_told (axioms.SubObjectPropertyChainOf chain super) = λ y h. let e0 : chain ≡ y.0 = lists_tell property_eq property_eq-tells chain y.0 (left_true ((pointwise property_eq) chain y.0) (property_eq super y.1.0) h) in let e1 : super ≡ y.1.0 = property_eq-tells super y.1.0 (right_true ((pointwise property_eq) chain y.0) (property_eq super y.1.0) h) in λ i. (e0 i, (e1 i, tt))
axiom_told (axioms.EquivalentObjectProperties properties) = λ y h. let e0 : properties ≡ y.0 = lists_tell property_eq property_eq-tells properties y.0 h in λ i. (e0 i, tt)
axiom_told (axioms.DisjointObjectProperties properties) = λ y h. let e0 : properties ≡ y.0 = lists_tell property_eq property_eq-tells properties y.0 h in λ i. (e0 i, tt)
axiom_told (axioms.InverseObjectProperties first second) = λ y h. let e0 : first ≡ y.0 = property_eq-tells first y.0 (left_true (property_eq first y.0) (property_eq second y.1.0) h) in let e1 : second ≡ y.1.0 = property_eq-tells second y.1.0 (right_true (property_eq first y.0) (property_eq second y.1.0) h) in λ i. (e0 i, (e1 i, tt))
axiom_told (axioms.ObjectPropertyDomain property class) = λ y h. let e0 : property ≡ y.0 = property_eq-tells property y.0 (left_true (property_eq property y.0) (class_eq class y.1.0) h) in let e1 : class ≡ y.1.0 = class_eq-tells class y.1.0 (right_true (property_eq property y.0) (class_eq class y.1.0) h) in λ i. (e0 i, (e1 i, tt))
axiom_told (axioms.ObjectPropertyRange property class) = λ y h. let e0 : property ≡ y.0 = property_eq-tells property y.0 (left_true (property_eq property y.0) (class_eq class y.1.0) h) in let e1 : class ≡ y.1.0 = class_eq-tells class y.1.0 (right_true (property_eq property y.0) (class_eq class y.1.0) h) in λ i. (e0 i, (e1 i, tt))
axiom_told (axioms.FunctionalObjectProperty property) = λ y h. let e0 : property ≡ y.0 = property_eq-tells property y.0 h in λ i. (e0 i, tt)
axiom_told (axioms.InverseFunctionalObjectProperty property) = λ y h. let e0 : property ≡ y.0 = property_eq-tells property y.0 h in λ i. (e0 i, tt)
axiom_told (axioms.ReflexiveObjectProperty property) = λ y h. let e0 : property ≡ y.0 = property_eq-tells property y.0 h in λ i. (e0 i, tt)
axiom_told (axioms.IrreflexiveObjectProperty property) = λ y h. let e0 : property ≡ y.0 = property_eq-tells property y.0 h in λ i. (e0 i, tt)
axiom_told (axioms.SymmetricObjectProperty property) = λ y h. let e0 : property ≡ y.0 = property_eq-tells property y.0 h in λ i. (e0 i, tt)
axiom_told (axioms.AsymmetricObjectProperty property) = λ y h. let e0 : property ≡ y.0 = property_eq-tells property y.0 h in λ i. (e0 i, tt)
axiom_told (axioms.TransitiveObjectProperty property) = λ y h. let e0 : property ≡ y.0 = property_eq-tells property y.0 h in λ i. (e0 i, tt)
axiom_told (axioms.SubDataPropertyOf sub super) = λ y h. let e0 : sub ≡ y.0 = text_tells sub y.0 (left_true (same_text sub y.0) (same_text super y.1.0) h) in let e1 : super ≡ y.1.0 = text_tells super y.1.0 (right_true (same_text sub y.0) (same_text super y.1.0) h) in λ i. (e0 i, (e1 i, tt))
axiom_told (axioms.EquivalentDataProperties properties) = λ y h. let e0 : properties ≡ y.0 = lists_tell same_text text_tells properties y.0 h in λ i. (e0 i, tt)
axiom_told (axioms.DisjointDataProperties properties) = λ y h. let e0 : properties ≡ y.0 = lists_tell same_text text_tells properties y.0 h in λ i. (e0 i, tt)
axiom_told (axioms.DataPropertyDomain property class) = λ y h. let e0 : property ≡ y.0 = text_tells property y.0 (left_true (same_text property y.0) (class_eq class y.1.0) h) in let e1 : class ≡ y.1.0 = class_eq-tells class y.1.0 (right_true (same_text property y.0) (class_eq class y.1.0) h) in λ i. (e0 i, (e1 i, tt))
axiom_told (axioms.DataPropertyRange property range) = λ y h. let e0 : property ≡ y.0 = text_tells property y.0 (left_true (same_text property y.0) (range_eq range y.1.0) h) in let e1 : range ≡ y.1.0 = range_eq-tells range y.1.0 (right_true (same_text property y.0) (range_eq range y.1.0) h) in λ i. (e0 i, (e1 i, tt))
axiom_told (axioms.FunctionalDataProperty property) = λ y h. let e0 : property ≡ y.0 = text_tells property y.0 h in λ i. (e0 i, tt)
axiom_told (axioms.DatatypeDefinition datatype range) = λ y h. let e0 : datatype ≡ y.0 = text_tells datatype y.0 (left_true (same_text datatype y.0) (range_eq range y.1.0) h) in let e1 : range ≡ y.1.0 = range_eq-tells range y.1.0 (right_true (same_text datatype y.0) (range_eq range y.1.0) h) in λ i. (e0 i, (e1 i, tt))
axiom_told (axioms.HasKey class objects values) = λ y h. let e0 : class ≡ y.0 = class_eq-tells class y.0 (left_true (class_eq class y.0) ((pointwise property_eq) objects y.1.0 && (pointwise same_text) values y.1.1.0) h) in let e1 : objects ≡ y.1.0 = lists_tell property_eq property_eq-tells objects y.1.0 (left_true ((pointwise property_eq) objects y.1.0) ((pointwise same_text) values y.1.1.0) (right_true (class_eq class y.0) ((pointwise property_eq) objects y.1.0 && (pointwise same_text) values y.1.1.0) h)) in let e2 : values ≡ y.1.1.0 = lists_tell same_text text_tells values y.1.1.0 (right_true ((pointwise property_eq) objects y.1.0) ((pointwise same_text) values y.1.1.0) (right_true (class_eq class y.0) ((pointwise property_eq) objects y.1.0 && (pointwise same_text) values y.1.1.0) h)) in λ i. (e0 i, (e1 i, (e2 i, tt)))
axiom_told (axioms.SameIndividual individuals) = λ y h. let e0 : individuals ≡ y.0 = lists_tell individual_eq individual_eq-tells individuals y.0 h in λ i. (e0 i, tt)
axiom_told (axioms.DifferentIndividuals individuals) = λ y h. let e0 : individuals ≡ y.0 = lists_tell individual_eq individual_eq-tells individuals y.0 h in λ i. (e0 i, tt)
axiom_told (axioms.ClassAssertion class individual) = λ y h. let e0 : class ≡ y.0 = class_eq-tells class y.0 (left_true (class_eq class y.0) (individual_eq individual y.1.0) h) in let e1 : individual ≡ y.1.0 = individual_eq-tells individual y.1.0 (right_true (class_eq class y.0) (individual_eq individual y.1.0) h) in λ i. (e0 i, (e1 i, tt))
axiom_told (axioms.ObjectPropertyAssertion property source target) = λ y h. let e0 : property ≡ y.0 = property_eq-tells property y.0 (left_true (property_eq property y.0) (individual_eq source y.1.0 && individual_eq target y.1.1.0) h) in let e1 : source ≡ y.1.0 = individual_eq-tells source y.1.0 (left_true (individual_eq source y.1.0) (individual_eq target y.1.1.0) (right_true (property_eq property y.0) (individual_eq source y.1.0 && individual_eq target y.1.1.0) h)) in let e2 : target ≡ y.1.1.0 = individual_eq-tells target y.1.1.0 (right_true (individual_eq source y.1.0) (individual_eq target y.1.1.0) (right_true (property_eq property y.0) (individual_eq source y.1.0 && individual_eq target y.1.1.0) h)) in λ i. (e0 i, (e1 i, (e2 i, tt)))
axiom_told (axioms.NegativeObjectPropertyAssertion property source target) = λ y h. let e0 : property ≡ y.0 = property_eq-tells property y.0 (left_true (property_eq property y.0) (individual_eq source y.1.0 && individual_eq target y.1.1.0) h) in let e1 : source ≡ y.1.0 = individual_eq-tells source y.1.0 (left_true (individual_eq source y.1.0) (individual_eq target y.1.1.0) (right_true (property_eq property y.0) (individual_eq source y.1.0 && individual_eq target y.1.1.0) h)) in let e2 : target ≡ y.1.1.0 = individual_eq-tells target y.1.1.0 (right_true (individual_eq source y.1.0) (individual_eq target y.1.1.0) (right_true (property_eq property y.0) (individual_eq source y.1.0 && individual_eq target y.1.1.0) h)) in λ i. (e0 i, (e1 i, (e2 i, tt)))
axiom_told (axioms.DataPropertyAssertion property source target) = λ y h. let e0 : property ≡ y.0 = text_tells property y.0 (left_true (same_text property y.0) (individual_eq source y.1.0 && literal_eq target y.1.1.0) h) in let e1 : source ≡ y.1.0 = individual_eq-tells source y.1.0 (left_true (individual_eq source y.1.0) (literal_eq target y.1.1.0) (right_true (same_text property y.0) (individual_eq source y.1.0 && literal_eq target y.1.1.0) h)) in let e2 : target ≡ y.1.1.0 = literal_eq-tells target y.1.1.0 (right_true (individual_eq source y.1.0) (literal_eq target y.1.1.0) (right_true (same_text property y.0) (individual_eq source y.1.0 && literal_eq target y.1.1.0) h)) in λ i. (e0 i, (e1 i, (e2 i, tt)))
axiom_told (axioms.NegativeDataPropertyAssertion property source target) = λ y h. let e0 : property ≡ y.0 = text_tells property y.0 (left_true (same_text property y.0) (individual_eq source y.1.0 && literal_eq target y.1.1.0) h) in let e1 : source ≡ y.1.0 = individual_eq-tells source y.1.0 (left_true (individual_eq source y.1.0) (literal_eq target y.1.1.0) (right_true (same_text property y.0) (individual_eq source y.1.0 && literal_eq target y.1.1.0) h)) in let e2 : target ≡ y.1.1.0 = literal_eq-tells target y.1.1.0 (right_true (individual_eq source y.1.0) (literal_eq target y.1.1.0) (right_true (same_text property y.0) (individual_eq source y.1.0 && literal_eq target y.1.1.0) h)) in λ i. (e0 i, (e1 i, (e2 i, tt)))
axiom_told (axioms.Declaration declared) = λ y h. let e0 : declared ≡ y.0 = entity_eq-tells declared y.0 h in λ i. (e0 i, tt)
axiom_told (axioms.AnnotationAssertion property subject value) = λ y h. let e0 : property ≡ y.0 = text_tells property y.0 (left_true (same_text property y.0) (subject_eq subject y.1.0 && value_eq value y.1.1.0) h) in let e1 : subject ≡ y.1.0 = subject_eq-tells subject y.1.0 (left_true (subject_eq subject y.1.0) (value_eq value y.1.1.0) (right_true (same_text property y.0) (subject_eq subject y.1.0 && value_eq value y.1.1.0) h)) in let e2 : value ≡ y.1.1.0 = value_eq-tells value y.1.1.0 (right_true (subject_eq subject y.1.0) (value_eq value y.1.1.0) (right_true (same_text property y.0) (subject_eq subject y.1.0 && value_eq value y.1.1.0) h)) in λ i. (e0 i, (e1 i, (e2 i, tt)))
axiom_told (axioms.SubAnnotationPropertyOf sub super) = λ y h. let e0 : sub ≡ y.0 = text_tells sub y.0 (left_true (same_text sub y.0) (same_text super y.1.0) h) in let e1 : super ≡ y.1.0 = text_tells super y.1.0 (right_true (same_text sub y.0) (same_text super y.1.0) h) in λ i. (e0 i, (e1 i, tt))
axiom_told (axioms.AnnotationPropertyDomain property domain) = λ y h. let e0 : property ≡ y.0 = text_tells property y.0 (left_true (same_text property y.0) (same_text domain y.1.0) h) in let e1 : domain ≡ y.1.0 = text_tells domain y.1.0 (right_true (same_text property y.0) (same_text domain y.1.0) h) in λ i. (e0 i, (e1 i, tt))
axiom_told (axioms.AnnotationPropertyRange property range) = λ y h. let e0 : property ≡ y.0 = text_tells property y.0 (left_true (same_text property y.0) (same_text range y.1.0) h) in let e1 : range ≡ y.1.0 = text_tells range y.1.0 (right_true (same_text property y.0) (same_text range y.1.0) h) in λ i. (e0 i, (e1 i, tt))

pub axiom_eq-tells : (x : Axiom) → Tells axiom_eq x
axiom_eq-tells x y h =
    let e : axiom_parts.as_values x ≡ axiom_parts.as_values y = choice_tells axiom_parts.the_parts axiom_fields (axiom_parts.as_values x) (axiom_told x) (axiom_parts.as_values y) h in
    sym (axiom_parts.the_eta x) ∙ ap axiom_parts.the_make e ∙ axiom_parts.the_eta y

abbrev pub noted_eq : Noted → Noted → Bool
noted_eq = noted_impl.ghosts.eq

pub noted_eq-tells : (x : Noted) → Tells noted_eq x
noted_eq-tells x y h =
    let e0 : x.notes ≡ y.notes = lists_tell annotation_eq annotation_eq-tells x.notes y.notes (left_true ((pointwise annotation_eq) x.notes y.notes) (axiom_eq x.axiom y.axiom) h) in
    let e1 : x.axiom ≡ y.axiom = axiom_eq-tells x.axiom y.axiom (right_true ((pointwise annotation_eq) x.notes y.notes) (axiom_eq x.axiom y.axiom) h) in
    λ i. record { notes = e0 i; «axiom» = e1 i }

pub entity_eq-is : (x y : Entity) → IsTrue (entity_eq x y) ↔ (x ≡ y)
entity_eq-is x y = (entity_eq-tells x y, λ e. ap (entity_eq x) (sym e) ∙ entity_laws.laws-law.refl x)

pub property_eq-is : (x y : ObjProp) → IsTrue (property_eq x y) ↔ (x ≡ y)
property_eq-is x y = (property_eq-tells x y, λ e. ap (property_eq x) (sym e) ∙ property_laws.laws-law.refl x)

pub individual_eq-is : (x y : Individual) → IsTrue (individual_eq x y) ↔ (x ≡ y)
individual_eq-is x y = (individual_eq-tells x y, λ e. ap (individual_eq x) (sym e) ∙ individual_laws.laws-law.refl x)

pub literal_eq-is : (x y : Literal) → IsTrue (literal_eq x y) ↔ (x ≡ y)
literal_eq-is x y = (literal_eq-tells x y, λ e. ap (literal_eq x) (sym e) ∙ literal_laws.laws-law.refl x)

pub facet_eq-is : (x y : Facet) → IsTrue (facet_eq x y) ↔ (x ≡ y)
facet_eq-is x y = (facet_eq-tells x y, λ e. ap (facet_eq x) (sym e) ∙ facet_laws.laws-law.refl x)

pub range_eq-is : (x y : Range) → IsTrue (range_eq x y) ↔ (x ≡ y)
range_eq-is x y = (range_eq-tells x y, λ e. ap (range_eq x) (sym e) ∙ range_laws.laws-law.refl x)

pub class_eq-is : (x y : Class) → IsTrue (class_eq x y) ↔ (x ≡ y)
class_eq-is x y = (class_eq-tells x y, λ e. ap (class_eq x) (sym e) ∙ class_laws.laws-law.refl x)

pub annotation_eq-is : (x y : Annotation) → IsTrue (annotation_eq x y) ↔ (x ≡ y)
annotation_eq-is x y = (annotation_eq-tells x y, λ e. ap (annotation_eq x) (sym e) ∙ annotation_laws.laws-law.refl x)

pub axiom_eq-is : (x y : Axiom) → IsTrue (axiom_eq x y) ↔ (x ≡ y)
axiom_eq-is x y = (axiom_eq-tells x y, λ e. ap (axiom_eq x) (sym e) ∙ axiom_laws.laws-law.refl x)

pub noted_eq-is : (x y : Noted) → IsTrue (noted_eq x y) ↔ (x ≡ y)
noted_eq-is x y = (noted_eq-tells x y, λ e. ap (noted_eq x) (sym e) ∙ noted_laws.laws-law.refl x)

-- words
pub text_eq-is : (x y : List ℕ) → IsTrue (same_text x y) ↔ (x ≡ y)
text_eq-is x y = (text_tells x y, λ e. ap (same_text x) (sym e) ∙ nat_list_eq_equiv.refl x)
