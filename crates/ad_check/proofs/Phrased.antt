-- Each phrase of the grammar is taken off: names, literals, individuals, properties, ranges, classes, annotations.
use Rattle.std.proofs.Common.{◌≡◌, ℕ, ◌<◌, Bool, false, List, [], ◌∷◌, ◌++◌, Option, None, Some, IfSome, refl, sym, ◌∙◌, ap, subst, arith, append_assoc}
use Rattle.std.specs.List.{AllByRecursion}
use Rattle.std.specs.Str.Parse.{digits_value}
use Rattle.ad_lex.specs.Lexemes.{Lexeme}
use Rattle.ad_lex.specs.Lexemes as says
use Rattle.ad_write.specs.Keywords as kw
use Rattle.ad_write.specs.Canonical.{entity_kind_word}
use Rattle.ad_tree.specs.declared.names.ObjProp.{ObjProp}
use Rattle.ad_tree.specs.declared.names.ObjProp.TheVariants as props
use Rattle.ad_tree.specs.declared.names.Individual.{Individual}
use Rattle.ad_tree.specs.declared.names.Individual.TheVariants as individuals
use Rattle.ad_tree.specs.declared.literals.Literal.{Literal}
use Rattle.ad_tree.specs.declared.literals.Literal.TheVariants as literals
use Rattle.ad_tree.specs.declared.literals.Facet.{Facet}
use Rattle.ad_entity.specs.declared.entities.EntityKind.{EntityKind}
use Rattle.ad_entity.specs.declared.entities.EntityKind.TheVariants as kinds
use Rattle.ad_entity.specs.declared.entities.Entity.{Entity}
use Rattle.ad_tree.specs.declared.notes.Subject.{Subject}
use Rattle.ad_tree.specs.declared.notes.Subject.TheVariants as subjects
use Rattle.ad_tree.specs.declared.notes.Value.{Value}
use Rattle.ad_tree.specs.declared.notes.Value.TheVariants as values
use Rattle.ad_tree.specs.declared.notes.Annotation.{Annotation}
use Rattle.ad_tree.specs.declared.ranges.Range.{Range}
use Rattle.ad_tree.specs.declared.classes.Class.{Class}
use Rattle.ad_tree.proofs.Induction.{range_induction, class_induction, annotation_induction}
use Rattle.ad_grammar.specs.Shapes.{Text, Then, Group, Compound, Many0, Many1, Optional}
use Rattle.ad_grammar.specs.Names.{Words, names, IsName, IsNumber, IsAnonymous, SpellsProperty, SpellsIndividual, SpellsLiteral, SpellsFacet, SpellsSubject, SpellsValue, SpellsEntity}
use Rattle.ad_grammar.specs.Phrases.{Extra, SpellsRange, SpellsClass, SpellsAnnotation}
use Rattle.ad_grammar.proofs.Equations as eq
use Rattle.ad_grammar.proofs.Equations.{as_spelled}
use Rattle.ad_check.specs.declared.items.Symbol.{Symbol}
use Rattle.ad_check.specs.declared.items.Symbol.TheVariants as it
use Rattle.ad_check.specs.declared.items.Nonterminal.{Nonterminal}
use Rattle.ad_check.specs.declared.items.Nonterminal.TheVariants as kind
use Rattle.ad_check.specs.Machine.{row, after, step, accepts, tail, named, labelled, quoted}
use Rattle.ad_check.proofs.Numerals.{number_is}
use Rattle.ad_check.proofs.Readings.{step_opens}
use Rattle.ad_check.proofs.Single.{range_row}
use Rattle.ad_check.proofs.Taken.{Takes, Closes, first_tail, none_is, none_not_some, accepts_step, accepts_same, compound, c_last, c_one, c_many, c_some, c_maybe, c_notes, c_filler}

pub all_each : {X : Type 0} (P : X → Type 0) → ((x : X) → P x) → (xs : List X) → AllByRecursion P xs
all_each P f [] = tt
all_each P f (x ∷ xs) = (f x, all_each P f xs)

pub if_some : {X : Type 0} (P : X → Type 0) → ((x : X) → P x) → (o : Option X) → IfSome o P
if_some P f None = tt
if_some P f (Some x) = f x

pub class_row : (w : Bool) (t : Lexeme) → row w kind.Class t ≡ row false kind.Class t
class_row w says.Left = refl
class_row w says.Right = refl
class_row w says.Equals = refl
class_row w says.Carets = refl
class_row w says.Plus = refl
class_row w says.Minus = refl
class_row w (says.Iri name) = refl
class_row w (says.Text value) = refl
class_row w (says.Plain word) = refl
class_row w (says.Short prefix local) = refl
class_row w (says.Node label) = refl
class_row w (says.Lang tag) = refl

module _ (w : Bool) where
  one_token : (k : Nonterminal) (l : Lexeme) → row w k l ≡ Some [] → Takes w k (l ∷ [])
  one_token k l h = record { taken = λ items b free. accepts_step w (it.One k ∷ items) items l b (step_opens w (it.One k) items [] l h) }

  pub tail_over : (items : List Symbol) (b : Text) → first_tail b ≡ false → accepts w (it.Tail ∷ items) b ≡ accepts w items b
  tail_over items [] h = refl
  tail_over items (t ∷ b) h = accepts_same w (it.Tail ∷ items) items t b (ap (λ o. after it.Tail items o (step w items t)) (none_is (tail t) h))

  -- a list between parentheses, and then others
  pub c_group : {X : Type 0} (k : Nonterminal) (r : List Symbol) (spells : X → Text → Type 0) (xs : List X) (Q : Text → Type 0) → AllByRecursion (λ x. (ts : Text) → spells x ts → Takes w k ts) xs → ((inner : Text) → Q inner → Closes w r inner) → (inner : Text) → Then (Group (Many0 spells xs)) Q inner → Closes w (it.Left ∷ it.Until k ∷ r) inner
  c_group k r spells xs Q each closes inner (a, q, e, (i, e', p), rest) = subst (Closes w (it.Left ∷ it.Until k ∷ r)) (sym (e ∙ ap (λ us. us ++ q) e')) (record {
    closed = λ items b.
        ap (accepts w (it.Until k ∷ (r ++ items))) (ap (λ us. us ++ says.Right ∷ b) (append_assoc i (says.Right ∷ []) q) ∙ append_assoc i (says.Right ∷ q) (says.Right ∷ b))
        ∙ (c_many w k spells xs each i p).closed (r ++ items) (q ++ says.Right ∷ b)
        ∙ (closes q rest).closed items b;
  })

  pub c_group_last : {X : Type 0} (k : Nonterminal) (spells : X → Text → Type 0) (xs : List X) → AllByRecursion (λ x. (ts : Text) → spells x ts → Takes w k ts) xs → (inner : Text) → Group (Many0 spells xs) inner → Closes w (it.Left ∷ it.Until k ∷ it.Right ∷ []) inner
  c_group_last k spells xs each inner (i, e, p) = subst (Closes w (it.Left ∷ it.Until k ∷ it.Right ∷ [])) (sym e) (record {
    closed = λ items b.
        ap (accepts w (it.Until k ∷ it.Right ∷ items)) (append_assoc i (says.Right ∷ []) (says.Right ∷ b))
        ∙ (c_many w k spells xs each i p).closed (it.Right ∷ items) (says.Right ∷ b);
  })

  module _ (words : Words) where
    name_row : (k : Nonterminal) (o : Option (List Symbol)) → named k ≡ o → (l : Lexeme) (name : List ℕ) → names words l ≡ Some name → row w k l ≡ o
    name_row k o h says.Left name is = absurd (none_not_some name is)
    name_row k o h says.Right name is = absurd (none_not_some name is)
    name_row k o h says.Equals name is = absurd (none_not_some name is)
    name_row k o h says.Carets name is = absurd (none_not_some name is)
    name_row k o h says.Plus name is = absurd (none_not_some name is)
    name_row k o h says.Minus name is = absurd (none_not_some name is)
    name_row k o h (says.Iri n) name is = h
    name_row k o h (says.Text value) name is = absurd (none_not_some name is)
    name_row k o h (says.Plain word) name is = absurd (none_not_some name is)
    name_row k o h (says.Short prefix local) name is = h
    name_row k o h (says.Node label) name is = absurd (none_not_some name is)
    name_row k o h (says.Lang tag) name is = absurd (none_not_some name is)

    pub takes_name : (k : Nonterminal) → named k ≡ Some [] → (name : List ℕ) (ts : Text) → IsName words name ts → Takes w k ts
    takes_name k h name ts (l, e, is) = subst (Takes w k) (sym e) (one_token k l (name_row k (Some []) h l name is))

    pub takes_number : (n : ℕ) (ts : Text) → IsNumber n ts → Takes w kind.Number ts
    takes_number n ts (digits, e, numeral, value, small) =
        let below : digits_value 10 digits < 4294967296 = omega (arith, value, small) in
        subst (Takes w kind.Number) (sym e) (one_token kind.Number (says.Plain digits) (rw (number_is digits numeral below) refl))

    pub takes_anonymous : (k : Nonterminal) → labelled k ≡ Some [] → (label : List ℕ) (ts : Text) → IsAnonymous label ts → Takes w k ts
    takes_anonymous k h [] ts (e, some) = absurd (some refl)
    takes_anonymous k h (b ∷ bs) ts (e, some) = subst (Takes w k) (sym e) (one_token k (says.Node (b ∷ bs)) h)

    pub takes_literal : (k : Nonterminal) → quoted k ≡ Some (it.Tail ∷ []) → (x : Literal) (ts : Text) → SpellsLiteral words x ts → Takes w k ts
    takes_literal k h (literals.Plain text) ts e = subst (Takes w k) (sym e) (record { taken = λ items b free. accepts_step w (it.One k ∷ items) (it.Tail ∷ items) (says.Text text) b (step_opens w (it.One k) items (it.Tail ∷ []) (says.Text text) h) ∙ tail_over items b free })
    takes_literal k h (literals.Lang text tag) ts e = subst (Takes w k) (sym e) (record { taken = λ items b free. accepts_step w (it.One k ∷ items) (it.Tail ∷ items) (says.Text text) (says.Lang tag ∷ b) (step_opens w (it.One k) items (it.Tail ∷ []) (says.Text text) h) })
    takes_literal k h (literals.Typed text datatype) ts (name, e, is) = subst (Takes w k) (sym e) (record { taken = λ items b free. accepts_step w (it.One k ∷ items) (it.Tail ∷ items) (says.Text text) (says.Carets ∷ (name ++ b)) (step_opens w (it.One k) items (it.Tail ∷ []) (says.Text text) h) ∙ (takes_name kind.Name refl datatype name is).taken items b free })

    pub takes_facet : (f : Facet) (ts : Text) → SpellsFacet words f ts → Takes w kind.Facet ts
    takes_facet f ts (a, q, e, (l, one, is), p) = subst (Takes w kind.Facet) (sym (e ∙ ap (λ us. us ++ q) one)) (record { taken = λ items b free. accepts_step w (it.One kind.Facet ∷ items) (it.One kind.Literal ∷ items) l (q ++ b) (step_opens w (it.One kind.Facet) items (it.One kind.Literal ∷ []) l (name_row kind.Facet (Some (it.One kind.Literal ∷ [])) refl l f.facet is)) ∙ (takes_literal kind.Literal refl f.value q p).taken items b free })

    pub takes_individual : (x : Individual) (ts : Text) → SpellsIndividual words x ts → Takes w kind.Individual ts
    takes_individual (individuals.Named name) ts h = takes_name kind.Individual refl name ts h
    takes_individual (individuals.Anonymous label) ts h = takes_anonymous kind.Individual refl label ts h

    pub takes_subject : (x : Subject) (ts : Text) → SpellsSubject words x ts → Takes w kind.Subject ts
    takes_subject (subjects.Iri name) ts h = takes_name kind.Subject refl name ts h
    takes_subject (subjects.Anonymous label) ts h = takes_anonymous kind.Subject refl label ts h

    pub takes_value : (x : Value) (ts : Text) → SpellsValue words x ts → Takes w kind.Value ts
    takes_value (values.Iri name) ts h = takes_name kind.Value refl name ts h
    takes_value (values.Anonymous label) ts h = takes_anonymous kind.Value refl label ts h
    takes_value (values.Literal literal) ts h = takes_literal kind.Value refl literal ts h

    pub takes_property : (x : ObjProp) (ts : Text) → SpellsProperty words x ts → Takes w kind.Property ts
    takes_property (props.Named name) ts h = takes_name kind.Property refl name ts h
    takes_property (props.Inverse name) ts h = compound w kind.Property kw.ObjectInverseOf (it.One kind.Name ∷ it.Right ∷ []) (IsName words name) refl (c_last w kind.Name (IsName words name) (takes_name kind.Name refl name)) ts h

    pub takes_link : (x : ObjProp) (ts : Text) → SpellsProperty words x ts → Takes w kind.Link ts
    takes_link (props.Named name) ts h = takes_name kind.Link refl name ts h
    takes_link (props.Inverse name) ts h = compound w kind.Link kw.ObjectInverseOf (it.One kind.Name ∷ it.Right ∷ []) (IsName words name) refl (c_last w kind.Name (IsName words name) (takes_name kind.Name refl name)) ts h

    pub takes_chain : (xs : List ObjProp) (ts : Text) → Compound kw.ObjectPropertyChain (Many1 (SpellsProperty words) xs) ts → Takes w kind.Link ts
    takes_chain xs ts h = compound w kind.Link kw.ObjectPropertyChain (it.One kind.Property ∷ it.Until kind.Property ∷ []) (Many1 (SpellsProperty words) xs) refl (c_some w kind.Property (SpellsProperty words) xs (all_each _ takes_property xs)) ts h

    entity_by : (k : EntityKind) (name : List ℕ) (ts : Text) → Compound (entity_kind_word k) (IsName words name) ts → Takes w kind.Entity ts
    entity_by kinds.Class name ts h = compound w kind.Entity kw.Class (it.One kind.Name ∷ it.Right ∷ []) (IsName words name) refl (c_last w kind.Name (IsName words name) (takes_name kind.Name refl name)) ts h
    entity_by kinds.Datatype name ts h = compound w kind.Entity kw.Datatype (it.One kind.Name ∷ it.Right ∷ []) (IsName words name) refl (c_last w kind.Name (IsName words name) (takes_name kind.Name refl name)) ts h
    entity_by kinds.ObjectProperty name ts h = compound w kind.Entity kw.ObjectProperty (it.One kind.Name ∷ it.Right ∷ []) (IsName words name) refl (c_last w kind.Name (IsName words name) (takes_name kind.Name refl name)) ts h
    entity_by kinds.DataProperty name ts h = compound w kind.Entity kw.DataProperty (it.One kind.Name ∷ it.Right ∷ []) (IsName words name) refl (c_last w kind.Name (IsName words name) (takes_name kind.Name refl name)) ts h
    entity_by kinds.AnnotationProperty name ts h = compound w kind.Entity kw.AnnotationProperty (it.One kind.Name ∷ it.Right ∷ []) (IsName words name) refl (c_last w kind.Name (IsName words name) (takes_name kind.Name refl name)) ts h
    entity_by kinds.NamedIndividual name ts h = compound w kind.Entity kw.NamedIndividual (it.One kind.Name ∷ it.Right ∷ []) (IsName words name) refl (c_last w kind.Name (IsName words name) (takes_name kind.Name refl name)) ts h

    pub takes_entity : (e : Entity) (ts : Text) → SpellsEntity words e ts → Takes w kind.Entity ts
    takes_entity e ts h = entity_by e.kind e.name ts h

    pub takes_range : (x : Range) (ts : Text) → SpellsRange words x ts → Takes w kind.Range ts
    takes_range = range_induction (λ x. (ts : Text) → SpellsRange words x ts → Takes w kind.Range ts) (record {
      named = λ datatype ts h. takes_name kind.Range refl datatype ts (as_spelled ts (eq.spells_range-named words datatype) h);
      intersection = λ operands each ts h. compound w kind.Range kw.DataIntersectionOf (it.One kind.Range ∷ it.Until kind.Range ∷ []) (Many1 (SpellsRange words) operands) refl (c_some w kind.Range (SpellsRange words) operands each) ts (as_spelled ts (eq.spells_range-and words operands) h);
      union = λ operands each ts h. compound w kind.Range kw.DataUnionOf (it.One kind.Range ∷ it.Until kind.Range ∷ []) (Many1 (SpellsRange words) operands) refl (c_some w kind.Range (SpellsRange words) operands each) ts (as_spelled ts (eq.spells_range-or words operands) h);
      complement = λ operand hyp ts h. compound w kind.Range kw.DataComplementOf (it.One kind.Range ∷ it.Right ∷ []) (SpellsRange words operand) refl (c_last w kind.Range (SpellsRange words operand) hyp) ts (as_spelled ts (eq.spells_range-not words operand) h);
      one_of = λ values ts h. compound w kind.Range kw.DataOneOf (it.One kind.Literal ∷ it.Until kind.Literal ∷ []) (Many1 (SpellsLiteral words) values) refl (c_some w kind.Literal (SpellsLiteral words) values (all_each _ (takes_literal kind.Literal refl) values)) ts (as_spelled ts (eq.spells_range-one_of words values) h);
      restriction = λ datatype facets ts h. compound w kind.Range kw.DatatypeRestriction (it.One kind.Name ∷ it.One kind.Facet ∷ it.Until kind.Facet ∷ []) (Then (IsName words datatype) (Many1 (SpellsFacet words) facets)) refl (c_one w kind.Name (it.One kind.Facet ∷ it.Until kind.Facet ∷ []) (IsName words datatype) (Many1 (SpellsFacet words) facets) refl (takes_name kind.Name refl datatype) (c_some w kind.Facet (SpellsFacet words) facets (all_each _ takes_facet facets))) ts (as_spelled ts (eq.spells_range-restriction words datatype facets) h);
    })

    pub takes_class : (x : Class) (ts : Text) → SpellsClass w words x ts → Takes w kind.Class ts
    takes_class = class_induction (λ x. (ts : Text) → SpellsClass w words x ts → Takes w kind.Class ts) (record {
      named = λ class ts h. takes_name kind.Class refl class ts (as_spelled ts (eq.spells_class-named w words class) h);
      intersection = λ operands each ts h. compound w kind.Class kw.ObjectIntersectionOf (it.One kind.Class ∷ it.Until kind.Class ∷ []) (Many1 (SpellsClass w words) operands) refl (c_some w kind.Class (SpellsClass w words) operands each) ts (as_spelled ts (eq.spells_class-and w words operands) h);
      union = λ operands each ts h. compound w kind.Class kw.ObjectUnionOf (it.One kind.Class ∷ it.Until kind.Class ∷ []) (Many1 (SpellsClass w words) operands) refl (c_some w kind.Class (SpellsClass w words) operands each) ts (as_spelled ts (eq.spells_class-or w words operands) h);
      complement = λ operand hyp ts h. compound w kind.Class kw.ObjectComplementOf (it.One kind.Class ∷ it.Right ∷ []) (SpellsClass w words operand) refl (c_last w kind.Class (SpellsClass w words operand) hyp) ts (as_spelled ts (eq.spells_class-not w words operand) h);
      one_of = λ members ts h. compound w kind.Class kw.ObjectOneOf (it.One kind.Individual ∷ it.Until kind.Individual ∷ []) (Many1 (SpellsIndividual words) members) refl (c_some w kind.Individual (SpellsIndividual words) members (all_each _ takes_individual members)) ts (as_spelled ts (eq.spells_class-one_of w words members) h);
      obj_some = λ property filler hyp ts h. compound w kind.Class kw.ObjectSomeValuesFrom (it.One kind.Property ∷ it.One kind.Class ∷ it.Right ∷ []) (Then (SpellsProperty words property) (SpellsClass w words filler)) refl (c_one w kind.Property (it.One kind.Class ∷ it.Right ∷ []) (SpellsProperty words property) (SpellsClass w words filler) refl (takes_property property) (c_last w kind.Class (SpellsClass w words filler) hyp)) ts (as_spelled ts (eq.spells_class-obj_some w words property filler) h);
      obj_all = λ property filler hyp ts h. compound w kind.Class kw.ObjectAllValuesFrom (it.One kind.Property ∷ it.One kind.Class ∷ it.Right ∷ []) (Then (SpellsProperty words property) (SpellsClass w words filler)) refl (c_one w kind.Property (it.One kind.Class ∷ it.Right ∷ []) (SpellsProperty words property) (SpellsClass w words filler) refl (takes_property property) (c_last w kind.Class (SpellsClass w words filler) hyp)) ts (as_spelled ts (eq.spells_class-obj_all w words property filler) h);
      obj_value = λ property individual ts h. compound w kind.Class kw.ObjectHasValue (it.One kind.Property ∷ it.One kind.Individual ∷ it.Right ∷ []) (Then (SpellsProperty words property) (SpellsIndividual words individual)) refl (c_one w kind.Property (it.One kind.Individual ∷ it.Right ∷ []) (SpellsProperty words property) (SpellsIndividual words individual) refl (takes_property property) (c_last w kind.Individual (SpellsIndividual words individual) (takes_individual individual))) ts (as_spelled ts (eq.spells_class-obj_value w words property individual) h);
      obj_self = λ property ts h. compound w kind.Class kw.ObjectHasSelf (it.One kind.Property ∷ it.Right ∷ []) (SpellsProperty words property) refl (c_last w kind.Property (SpellsProperty words property) (takes_property property)) ts (as_spelled ts (eq.spells_class-obj_self w words property) h);
      obj_min = λ number property filler hyp ts h. compound w kind.Class kw.ObjectMinCardinality (it.One kind.Number ∷ it.One kind.Property ∷ it.Maybe kind.Class ∷ it.Right ∷ []) (Then (IsNumber number) (Then (SpellsProperty words property) (Optional (SpellsClass w words) filler))) refl (c_one w kind.Number (it.One kind.Property ∷ it.Maybe kind.Class ∷ it.Right ∷ []) (IsNumber number) (Then (SpellsProperty words property) (Optional (SpellsClass w words) filler)) refl (takes_number number) (c_one w kind.Property (it.Maybe kind.Class ∷ it.Right ∷ []) (SpellsProperty words property) (Optional (SpellsClass w words) filler) refl (takes_property property) (c_maybe w kind.Class (SpellsClass w words) filler (class_row w) hyp))) ts (as_spelled ts (eq.spells_class-obj_min w words number property filler) h);
      obj_max = λ number property filler hyp ts h. compound w kind.Class kw.ObjectMaxCardinality (it.One kind.Number ∷ it.One kind.Property ∷ it.Maybe kind.Class ∷ it.Right ∷ []) (Then (IsNumber number) (Then (SpellsProperty words property) (Optional (SpellsClass w words) filler))) refl (c_one w kind.Number (it.One kind.Property ∷ it.Maybe kind.Class ∷ it.Right ∷ []) (IsNumber number) (Then (SpellsProperty words property) (Optional (SpellsClass w words) filler)) refl (takes_number number) (c_one w kind.Property (it.Maybe kind.Class ∷ it.Right ∷ []) (SpellsProperty words property) (Optional (SpellsClass w words) filler) refl (takes_property property) (c_maybe w kind.Class (SpellsClass w words) filler (class_row w) hyp))) ts (as_spelled ts (eq.spells_class-obj_max w words number property filler) h);
      obj_exact = λ number property filler hyp ts h. compound w kind.Class kw.ObjectExactCardinality (it.One kind.Number ∷ it.One kind.Property ∷ it.Maybe kind.Class ∷ it.Right ∷ []) (Then (IsNumber number) (Then (SpellsProperty words property) (Optional (SpellsClass w words) filler))) refl (c_one w kind.Number (it.One kind.Property ∷ it.Maybe kind.Class ∷ it.Right ∷ []) (IsNumber number) (Then (SpellsProperty words property) (Optional (SpellsClass w words) filler)) refl (takes_number number) (c_one w kind.Property (it.Maybe kind.Class ∷ it.Right ∷ []) (SpellsProperty words property) (Optional (SpellsClass w words) filler) refl (takes_property property) (c_maybe w kind.Class (SpellsClass w words) filler (class_row w) hyp))) ts (as_spelled ts (eq.spells_class-obj_exact w words number property filler) h);
      data_some = λ property range ts h. compound w kind.Class kw.DataSomeValuesFrom (it.One kind.Name ∷ it.Filler ∷ []) (Then (IsName words property) (Then (Extra w words) (SpellsRange words range))) refl (c_one w kind.Name (it.Filler ∷ []) (IsName words property) (Then (Extra w words) (SpellsRange words range)) refl (takes_name kind.Name refl property) (c_filler w words (SpellsRange words range) (takes_range range))) ts (as_spelled ts (eq.spells_class-data_some w words property range) h);
      data_all = λ property range ts h. compound w kind.Class kw.DataAllValuesFrom (it.One kind.Name ∷ it.Filler ∷ []) (Then (IsName words property) (Then (Extra w words) (SpellsRange words range))) refl (c_one w kind.Name (it.Filler ∷ []) (IsName words property) (Then (Extra w words) (SpellsRange words range)) refl (takes_name kind.Name refl property) (c_filler w words (SpellsRange words range) (takes_range range))) ts (as_spelled ts (eq.spells_class-data_all w words property range) h);
      data_value = λ property value ts h. compound w kind.Class kw.DataHasValue (it.One kind.Name ∷ it.One kind.Literal ∷ it.Right ∷ []) (Then (IsName words property) (SpellsLiteral words value)) refl (c_one w kind.Name (it.One kind.Literal ∷ it.Right ∷ []) (IsName words property) (SpellsLiteral words value) refl (takes_name kind.Name refl property) (c_last w kind.Literal (SpellsLiteral words value) (takes_literal kind.Literal refl value))) ts (as_spelled ts (eq.spells_class-data_value w words property value) h);
      data_min = λ number property range ts h. compound w kind.Class kw.DataMinCardinality (it.One kind.Number ∷ it.One kind.Name ∷ it.Maybe kind.Range ∷ it.Right ∷ []) (Then (IsNumber number) (Then (IsName words property) (Optional (SpellsRange words) range))) refl (c_one w kind.Number (it.One kind.Name ∷ it.Maybe kind.Range ∷ it.Right ∷ []) (IsNumber number) (Then (IsName words property) (Optional (SpellsRange words) range)) refl (takes_number number) (c_one w kind.Name (it.Maybe kind.Range ∷ it.Right ∷ []) (IsName words property) (Optional (SpellsRange words) range) refl (takes_name kind.Name refl property) (c_maybe w kind.Range (SpellsRange words) range (range_row w) (if_some _ takes_range range)))) ts (as_spelled ts (eq.spells_class-data_min w words number property range) h);
      data_max = λ number property range ts h. compound w kind.Class kw.DataMaxCardinality (it.One kind.Number ∷ it.One kind.Name ∷ it.Maybe kind.Range ∷ it.Right ∷ []) (Then (IsNumber number) (Then (IsName words property) (Optional (SpellsRange words) range))) refl (c_one w kind.Number (it.One kind.Name ∷ it.Maybe kind.Range ∷ it.Right ∷ []) (IsNumber number) (Then (IsName words property) (Optional (SpellsRange words) range)) refl (takes_number number) (c_one w kind.Name (it.Maybe kind.Range ∷ it.Right ∷ []) (IsName words property) (Optional (SpellsRange words) range) refl (takes_name kind.Name refl property) (c_maybe w kind.Range (SpellsRange words) range (range_row w) (if_some _ takes_range range)))) ts (as_spelled ts (eq.spells_class-data_max w words number property range) h);
      data_exact = λ number property range ts h. compound w kind.Class kw.DataExactCardinality (it.One kind.Number ∷ it.One kind.Name ∷ it.Maybe kind.Range ∷ it.Right ∷ []) (Then (IsNumber number) (Then (IsName words property) (Optional (SpellsRange words) range))) refl (c_one w kind.Number (it.One kind.Name ∷ it.Maybe kind.Range ∷ it.Right ∷ []) (IsNumber number) (Then (IsName words property) (Optional (SpellsRange words) range)) refl (takes_number number) (c_one w kind.Name (it.Maybe kind.Range ∷ it.Right ∷ []) (IsName words property) (Optional (SpellsRange words) range) refl (takes_name kind.Name refl property) (c_maybe w kind.Range (SpellsRange words) range (range_row w) (if_some _ takes_range range)))) ts (as_spelled ts (eq.spells_class-data_exact w words number property range) h);
    })

    pub takes_note : (x : Annotation) (ts : Text) → SpellsAnnotation words x ts → Takes w kind.Note ts
    takes_note = annotation_induction (λ x. (ts : Text) → SpellsAnnotation words x ts → Takes w kind.Note ts) (record {
      annotation = λ notes property value each ts h. compound w kind.Note kw.Annotation (it.Star kind.Note ∷ it.One kind.Name ∷ it.One kind.Value ∷ it.Right ∷ []) (Then (Many0 (SpellsAnnotation words) notes) (Then (IsName words property) (SpellsValue words value))) refl (c_notes w (SpellsAnnotation words) notes (it.One kind.Name ∷ it.One kind.Value ∷ it.Right ∷ []) (Then (IsName words property) (SpellsValue words value)) refl (λ items. refl) each (c_one w kind.Name (it.One kind.Value ∷ it.Right ∷ []) (IsName words property) (SpellsValue words value) refl (takes_name kind.Name refl property) (c_last w kind.Value (SpellsValue words value) (takes_value value)))) ts (as_spelled ts (eq.spells_annotation words notes property value) h);
    })
