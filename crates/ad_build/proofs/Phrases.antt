-- Names, literals, properties, data ranges and class expressions are read as the trees that they spell.
use Rattle.std.proofs.Common.{◌≡◌, ℕ, false, List, [], ◌∷◌, ◌++◌, Option, None, Some, IfSome, refl, sym, ◌∙◌, ap, subst, append_assoc}
use Rattle.std.specs.Option.{option_map, option_zip}
use Rattle.std.specs.List.{AllByRecursion}
use Rattle.ad_lex.specs.Lexemes.{Lexeme}
use Rattle.ad_lex.specs.Lexemes as says
use Rattle.ad_write.specs.Keywords as kw
use Rattle.ad_grammar.specs.Names.{Words, IsName, IsNumber, SpellsProperty, SpellsIndividual, SpellsLiteral, SpellsFacet, SpellsSubject, SpellsValue, SpellsEntity}
use Rattle.ad_grammar.specs.Shapes.{Text, Then, Compound, Many0, Many1, Optional}
use Rattle.ad_grammar.specs.Phrases.{SpellsRange, SpellsClass, Extra, range_step, class_step}
use Rattle.ad_entity.specs.Entities.{entity}
use Rattle.ad_entity.specs.declared.entities.Entity.{Entity}
use Rattle.ad_entity.specs.declared.entities.EntityKind.TheVariants as kinds
use Rattle.ad_tree.specs.declared.names.ObjProp.{ObjProp}
use Rattle.ad_tree.specs.declared.names.ObjProp.TheVariants as props
use Rattle.ad_tree.specs.declared.names.Individual.{Individual}
use Rattle.ad_tree.specs.declared.names.Individual.TheVariants as individuals
use Rattle.ad_tree.specs.declared.literals.Literal.{Literal}
use Rattle.ad_tree.specs.declared.literals.Literal.TheVariants as literals
use Rattle.ad_tree.specs.declared.literals.Facet.{Facet}
use Rattle.ad_tree.specs.declared.notes.Subject.{Subject}
use Rattle.ad_tree.specs.declared.notes.Subject.TheVariants as subjects
use Rattle.ad_tree.specs.declared.notes.Value.{Value}
use Rattle.ad_tree.specs.declared.notes.Value.TheVariants as values
use Rattle.ad_tree.specs.declared.ranges.Range.{Range}
use Rattle.ad_tree.specs.declared.ranges.Range.TheVariants as r
use Rattle.ad_tree.specs.declared.classes.Class.{Class}
use Rattle.ad_tree.specs.declared.classes.Class.TheVariants as c
use Rattle.ad_tree.proofs.Induction.{RangeCases, range_induction, ClassCases, class_induction}
use Rattle.ad_terms.specs.declared.item.StackItem.{StackItem}
use Rattle.ad_terms.specs.declared.item.StackItem.TheVariants as i
use Rattle.ad_terms.specs.declared.keyword.Keyword.{Keyword}
use Rattle.ad_terms.specs.declared.keyword.Keyword.TheVariants as keyword
use Rattle.ad_terms.specs.declared.keyword.RangeWord.{RangeWord}
use Rattle.ad_terms.specs.declared.keyword.RangeWord.TheVariants as rangeword
use Rattle.ad_terms.specs.declared.keyword.JoinWord.TheVariants as joinword
use Rattle.ad_terms.specs.declared.keyword.ClassWord.{ClassWord}
use Rattle.ad_terms.specs.declared.keyword.ClassWord.TheVariants as classword
use Rattle.ad_terms.specs.declared.reads_as.Lower.{Lower}
use Rattle.ad_terms.specs.declared.reads_as.Lower.TheVariants as lower
use Rattle.ad_terms.specs.Items.{as_name, as_number, as_property, as_lower, as_individual, as_literal, as_range, as_class, as_entity, as_subject, as_value}
use Rattle.ad_terms.specs.Shapes.{one, two, counted, each, more}
use Rattle.ad_terms.specs.Stacks.{leading_notes}
use Rattle.ad_build.specs.Words.{keyword_of}
use Rattle.ad_terms.specs.Built.{range_of, class_of, facet, facets, restriction}
use Rattle.ad_build.specs.Reads.{reads, built, built_if, put_text, unless_broken}
use Rattle.ad_build.proofs.Tops.{begins, begins_tail, plain_before}
use Rattle.ad_build.proofs.Readings.{Reads, ReadsAs, Gathers, Is, is_note, nothing, single, joined, made, name_reads, for_all}
use Rattle.ad_build.proofs.Arguments.{Arguments, one_argument, two_arguments, each_argument, counted_arguments}
use Rattle.ad_grammar.proofs.Equations.{as_spelled, spells_range-named, spells_range-and, spells_range-or, spells_range-not, spells_range-one_of, spells_range-restriction}

module _ (words : Words) where
  pub name_as : {X : Type 0} (f : StackItem → Option X) (x : X) (name : List ℕ) → f (i.Name name) ≡ Some x → (ts : Text) → IsName words name ts → ReadsAs words f x ts
  name_as f x name is ts n = record { item = i.Name name; is = is; other = refl; phrase = name_reads words name ts n }

  pub names_read : (name : List ℕ) → Is words (IsName words) as_name name
  names_read name ts n = name_as as_name name name refl ts n

  label_reads : (label : List ℕ) (ts : Text) → ts ≡ says.Node label ∷ [] → Reads words (i.Label label) ts
  label_reads label ts e = record { whole = refl; begins = λ rest. ap (λ t. begins (t ++ rest)) e; reads = λ rest h. ap (λ t. reads words (t ++ rest)) e }

  pub label_as : {X : Type 0} (f : StackItem → Option X) (x : X) (label : List ℕ) → f (i.Label label) ≡ Some x → (ts : Text) → ts ≡ says.Node label ∷ [] → ReadsAs words f x ts
  label_as f x label is ts e = record { item = i.Label label; is = is; other = refl; phrase = label_reads label ts e }

  pub literal_reads : (x : Literal) (ts : Text) → SpellsLiteral words x ts → Reads words (i.Literal x) ts
  literal_reads (literals.Plain text) ts e = record {
    whole = refl;
    begins = λ rest. ap (λ t. begins (t ++ rest)) e;
    reads = λ rest h. ap (λ t. reads words (t ++ rest)) e ∙ plain_before words text rest h;
  }
  literal_reads (literals.Lang text tag) ts e = record {
    whole = refl;
    begins = λ rest. ap (λ t. begins (t ++ rest)) e;
    reads = λ rest h. ap (λ t. reads words (t ++ rest)) e;
  }
  literal_reads (literals.Typed text datatype) ts (name, e, n) = record {
    whole = refl;
    begins = λ rest. ap (λ t. begins (t ++ rest)) e;
    reads = λ rest h. ap (λ t. reads words (t ++ rest)) e ∙ ap (λ items. put_text text (i.Carets ∷ items)) ((name_reads words datatype name n).reads rest h);
  }

  pub literal_as : {X : Type 0} (f : StackItem → Option X) (y : X) (x : Literal) → f (i.Literal x) ≡ Some y → (ts : Text) → SpellsLiteral words x ts → ReadsAs words f y ts
  literal_as f y x is ts s = record { item = i.Literal x; is = is; other = refl; phrase = literal_reads x ts s }

  pub literals_read : (x : Literal) → Is words (SpellsLiteral words) as_literal x
  literals_read x ts s = literal_as as_literal x x refl ts s

  inverse_reads : (name : List ℕ) (ts : Text) → Compound kw.ObjectInverseOf (IsName words name) ts → Reads words (i.Inverse name) ts
  inverse_reads name ts (inner, e, n) =
      made words kw.ObjectInverseOf (i.Name name ∷ []) (i.Inverse name) inner ts (single words (i.Name name) inner (name_reads words name inner n)) e refl refl

  pub properties_read : (x : ObjProp) → Is words (SpellsProperty words) as_property x
  properties_read (props.Named name) ts n = name_as as_property (props.Named name) name refl ts n
  properties_read (props.Inverse name) ts s = record { item = i.Inverse name; is = refl; other = refl; phrase = inverse_reads name ts s }

  pub lower_reads : (x : ObjProp) (ts : Text) → SpellsProperty words x ts → ReadsAs words as_lower (lower.Property x) ts
  lower_reads (props.Named name) ts n = name_as as_lower (lower.Property (props.Named name)) name refl ts n
  lower_reads (props.Inverse name) ts s = record { item = i.Inverse name; is = refl; other = refl; phrase = inverse_reads name ts s }

  pub individuals_read : (x : Individual) → Is words (SpellsIndividual words) as_individual x
  individuals_read (individuals.Named name) ts n = name_as as_individual (individuals.Named name) name refl ts n
  individuals_read (individuals.Anonymous label) ts s = label_as as_individual (individuals.Anonymous label) label refl ts s.0

  pub subjects_read : (x : Subject) → Is words (SpellsSubject words) as_subject x
  subjects_read (subjects.Iri name) ts n = name_as as_subject (subjects.Iri name) name refl ts n
  subjects_read (subjects.Anonymous label) ts s = label_as as_subject (subjects.Anonymous label) label refl ts s.0

  pub values_read : (x : Value) → Is words (SpellsValue words) as_value x
  values_read (values.Iri name) ts n = name_as as_value (values.Iri name) name refl ts n
  values_read (values.Anonymous label) ts s = label_as as_value (values.Anonymous label) label refl ts s.0
  values_read (values.Literal x) ts s = literal_as as_value (values.Literal x) x refl ts s

  pub chain_reads : (chain : List ObjProp) (ts : Text) → Compound kw.ObjectPropertyChain (Many1 (SpellsProperty words) chain) ts → ReadsAs words as_lower (lower.Chain chain) ts
  chain_reads chain ts (inner, e, ss) =
      let found = each_argument words (SpellsProperty words) as_property chain (for_all _ properties_read chain) inner ss in
      record {
        item = i.Chain chain;
        is = refl;
        other = refl;
        phrase = made words kw.ObjectPropertyChain found.items (i.Chain chain) inner ts found.gathers e (ap (unless_broken i.Chain) found.is) refl;
      }

  -- facets, each with its value
  record Facets (all : List Facet) (ts : Text) : Type 0 where
    items : List StackItem
    are : facets items ≡ Some all
    gathers : Gathers words items ts

  more-facets : (x : Facet) (o : Option (List Facet)) (all : List Facet) → o ≡ Some all → more (Some x) o ≡ Some (x ∷ all)
  more-facets x o all e = ap (more (Some x)) e

  facets_read : (all : List Facet) (ts : Text) → Many0 (SpellsFacet words) all ts → Facets all ts
  facets_read [] ts e = record { items = []; are = refl; gathers = (let P : Text → Type 0 = λ t. Gathers words [] t in subst P (sym e) (nothing words)) }
  facets_read (x ∷ all) ts (ab, rest, e, (a, b, e', n, s), ss) =
      let others = facets_read all rest ss in
      let first : Gathers words (i.Name x.facet ∷ []) a = single words (i.Name x.facet) a (name_reads words x.facet a n) in
      let second : Gathers words (i.Literal x.value ∷ []) b = single words (i.Literal x.value) b (literal_reads x.value b s) in
      let both : Gathers words (i.Name x.facet ∷ i.Literal x.value ∷ []) (a ++ b) = joined words (i.Name x.facet ∷ []) (i.Literal x.value ∷ []) a b first second in
      let all_of : Gathers words (i.Name x.facet ∷ i.Literal x.value ∷ others.items) ((a ++ b) ++ rest) = joined words (i.Name x.facet ∷ i.Literal x.value ∷ []) others.items (a ++ b) rest both others.gathers in
      record {
        items = i.Name x.facet ∷ i.Literal x.value ∷ others.items;
        are = more-facets x (facets others.items) all others.are;
        gathers = (let P : Text → Type 0 = λ t. Gathers words (i.Name x.facet ∷ i.Literal x.value ∷ others.items) t in subst P (sym (e ∙ ap (λ t. t ++ rest) e')) all_of);
      }

  -- a data range or a class expression that a keyword makes of its arguments
  pub range_made : (w : List ℕ) (word : RangeWord) → keyword_of w ≡ Some (keyword.Range word)
      → {A : Type 0} (take : List StackItem → Option A) (make : A → Range) → ((items : List StackItem) → range_of word items ≡ option_map make (take items))
      → (x : A) (inner ts : Text) → Arguments words take x inner → ts ≡ says.Plain w ∷ says.Left ∷ (inner ++ says.Right ∷ []) → ReadsAs words as_range (make x) ts
  range_made w word known take make same x inner ts found e = record {
    item = i.Range (make x);
    is = refl;
    other = refl;
    phrase = made words w found.items (i.Range (make x)) inner ts found.gathers e
        (ap (λ o. built_if o found.items) known ∙ ap (unless_broken i.Range) (same found.items ∙ ap (option_map make) found.is)) refl;
  }

  pub class_made : (w : List ℕ) (word : ClassWord) → keyword_of w ≡ Some (keyword.Class word)
      → {A : Type 0} (take : List StackItem → Option A) (make : A → Class) → ((items : List StackItem) → class_of word items ≡ option_map make (take items))
      → (x : A) (inner ts : Text) → Arguments words take x inner → ts ≡ says.Plain w ∷ says.Left ∷ (inner ++ says.Right ∷ []) → ReadsAs words as_class (make x) ts
  class_made w word known take make same x inner ts found e = record {
    item = i.Class (make x);
    is = refl;
    other = refl;
    phrase = made words w found.items (i.Class (make x)) inner ts found.gathers e
        (ap (λ o. built_if o found.items) known ∙ ap (unless_broken i.Class) (same found.items ∙ ap (option_map make) found.is)) refl;
  }

  abbrev IsRead : Range → Type 0
  IsRead x = Is words (SpellsRange words) as_range x

  restriction_read : (datatype : List ℕ) (all : List Facet) (ts : Text) → Compound kw.DatatypeRestriction (Then (IsName words datatype) (Many1 (SpellsFacet words) all)) ts → ReadsAs words as_range (r.Restriction datatype all) ts
  restriction_read datatype [] ts (inner, e, (a, b, e', n, ss)) = absurd ss
  restriction_read datatype (x ∷ all) ts (inner, e, (a, b, e', n, ss)) =
      let found = facets_read (x ∷ all) b ss in
      let first : Gathers words (i.Name datatype ∷ []) a = single words (i.Name datatype) a (name_reads words datatype a n) in
      let both : Gathers words (i.Name datatype ∷ found.items) (a ++ b) = joined words (i.Name datatype ∷ []) found.items a b first found.gathers in
      let P : Text → Type 0 = λ t. Gathers words (i.Name datatype ∷ found.items) t in
      record {
        item = i.Range (r.Restriction datatype (x ∷ all));
        is = refl;
        other = refl;
        phrase = made words kw.DatatypeRestriction (i.Name datatype ∷ found.items) (i.Range (r.Restriction datatype (x ∷ all))) inner ts (subst P (sym e') both) e
            (ap (λ o. unless_broken i.Range (option_map (λ p. r.Restriction p.0 p.1) (option_zip (Some datatype) o))) found.are) refl;
      }

  range_cases : RangeCases IsRead
  range_cases = record {
    named = λ datatype ts s. name_as as_range (r.Named datatype) datatype refl ts (as_spelled ts (spells_range-named words datatype) s);
    intersection = λ operands all ts s.
        let h : Compound kw.DataIntersectionOf (Many1 (SpellsRange words) operands) ts = as_spelled ts (spells_range-and words operands) s in
        range_made kw.DataIntersectionOf (rangeword.Join joinword.Intersection) refl (each as_range) r.And (λ items. refl) operands h.0 ts (each_argument words (SpellsRange words) as_range operands all h.0 h.2) h.1;
    union = λ operands all ts s.
        let h : Compound kw.DataUnionOf (Many1 (SpellsRange words) operands) ts = as_spelled ts (spells_range-or words operands) s in
        range_made kw.DataUnionOf (rangeword.Join joinword.Union) refl (each as_range) r.Or (λ items. refl) operands h.0 ts (each_argument words (SpellsRange words) as_range operands all h.0 h.2) h.1;
    complement = λ operand is_read ts s.
        let h : Compound kw.DataComplementOf (SpellsRange words operand) ts = as_spelled ts (spells_range-not words operand) s in
        range_made kw.DataComplementOf rangeword.Complement refl (one as_range) r.Not (λ items. refl) operand h.0 ts (one_argument words as_range operand h.0 (is_read h.0 h.2)) h.1;
    one_of = λ values ts s.
        let h : Compound kw.DataOneOf (Many1 (SpellsLiteral words) values) ts = as_spelled ts (spells_range-one_of words values) s in
        range_made kw.DataOneOf rangeword.OneOf refl (each as_literal) r.OneOf (λ items. refl) values h.0 ts (each_argument words (SpellsLiteral words) as_literal values (for_all _ literals_read values) h.0 h.2) h.1;
    restriction = λ datatype all ts s. restriction_read datatype all ts (as_spelled ts (spells_range-restriction words datatype all) s);
  }

  pub ranges_read : (x : Range) → Is words (SpellsRange words) as_range x
  ranges_read x = range_induction IsRead range_cases x
