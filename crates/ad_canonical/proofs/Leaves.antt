-- Names, numbers, literals, individuals and object properties, as they are written.
use Rattle.std.proofs.Common.{◌≡◌, ℕ, ◌<◌, ◌^◌, true, List, [], ◌∷◌, ◌++◌, length, get_or, IsUtf8, decimal, refl, sym, ◌∙◌, ap, subst, append_assoc, arith}
use Rattle.std.specs.List.{AllPass}
use Rattle.std.specs.Char.{is_ascii_alphanumeric}
use Rattle.std.specs.Int.{IsInRange}
use Rattle.std.specs.Str.Parse.{AllDigits}
use Rattle.std.proofs.lemmas.List.Elements.{All-from_get_or}
use Rattle.std.proofs.lemmas.Str.{IsUtf8-append, IsUtf8-from_ascii}
use Rattle.std.proofs.lemmas.Str.Parse.{digit_at}
use Rattle.std.proofs.lemmas.Fmt.{decimal_is_IsNumeral, IsAscii-decimal}
use Rattle.ad_lex.specs.declared.token.Mark.TheVariants as mark
use Rattle.ad_lex.specs.Lexemes as says
use Rattle.ad_lex.specs.Characters.{is_iri}
use Rattle.ad_lex.proofs.Keywords.{plain_shape, node_shape, lang_shape}
use Rattle.ad_write.specs.Keywords as kw
use Rattle.ad_write.specs.Canonical.{canon_iri, canon_anonymous, escaped, quoted, canon_literal, canon_property, canon_individual, canon_facet, canon_subject, canon_value, entity_kind_word, canon_entity}
use Rattle.ad_entity.specs.declared.entities.EntityKind.{EntityKind}
use Rattle.ad_entity.specs.declared.entities.EntityKind.TheVariants as kinds
use Rattle.ad_entity.specs.declared.entities.Entity.{Entity}
use Rattle.ad_tree.specs.declared.names.ObjProp.{ObjProp}
use Rattle.ad_tree.specs.declared.names.ObjProp.TheVariants as props
use Rattle.ad_tree.specs.declared.names.Individual.{Individual}
use Rattle.ad_tree.specs.declared.names.Individual.TheVariants as individuals
use Rattle.ad_tree.specs.declared.literals.Literal.{Literal}
use Rattle.ad_tree.specs.declared.literals.Literal.TheVariants as literals
use Rattle.ad_tree.specs.declared.literals.Facet.{Facet}
use Rattle.ad_tree.specs.declared.notes.Subject.{Subject}
use Rattle.ad_tree.specs.declared.notes.Subject.TheVariants as subjects
use Rattle.ad_tree.specs.declared.notes.Value.{Value}
use Rattle.ad_tree.specs.declared.notes.Value.TheVariants as values
use Rattle.ad_grammar.specs.Shapes.{Text}
use Rattle.ad_grammar.specs.Names.{IsName, IsNumber, IsAnonymous, SpellsProperty, SpellsIndividual, SpellsLiteral, SpellsFacet, SpellsSubject, SpellsValue, SpellsEntity}
use Rattle.ad_canonical.specs.Spellable.{SpellableIri, SpellableWord, SpellableNumber, SpellableLiteral, SpellableProperty, SpellableIndividual, SpellableFacet, SpellableSubject, SpellableValue, SpellableEntity}
use Rattle.ad_canonical.proofs.Keywords.{is_word, byte_utf8}
use Rattle.ad_canonical.proofs.Parentheses as match
use Rattle.ad_canonical.proofs.Spans.{Spans, joined, token, iri, string}
use Rattle.ad_canonical.proofs.Escapes.{escaped_same, escaped_utf8}
use Rattle.ad_canonical.proofs.Written.{Written, next, phrase}

iri_spans : (name rest : List ℕ) → AllPass is_iri name → Spans (canon_iri name ++ rest) (says.Iri name ∷ []) rest
iri_spans name rest all = subst (λ xs. Spans (60 ∷ xs) (says.Iri name ∷ []) rest) (sym (append_assoc name (62 ∷ []) rest)) (iri name rest all)

iri_utf8 : (name : List ℕ) → IsUtf8 name → IsUtf8 (canon_iri name)
iri_utf8 name utf8 = IsUtf8-append (60 ∷ []) (name ++ 62 ∷ []) (byte_utf8 60 (omega arith)) (IsUtf8-append name (62 ∷ []) utf8 (byte_utf8 62 (omega arith)))

pub name : (n : List ℕ) → SpellableIri n → Written (canon_iri n) (λ words. IsName words n)
name n h = record {
  tokens = says.Iri n ∷ [];
  utf8 = iri_utf8 n h.utf8;
  spans = λ rest e. iri_spans n rest h.each;
  matching = match.iri n;
  spelled = λ words. (says.Iri n, refl, refl);
}

pub anonymous : (label : List ℕ) → SpellableWord label → Written (canon_anonymous label) (λ words. IsAnonymous label)
anonymous label h = record {
  tokens = says.Node label ∷ [];
  utf8 = IsUtf8-append (95 ∷ []) (58 ∷ label) (byte_utf8 95 (omega arith)) (IsUtf8-append (58 ∷ []) label (byte_utf8 58 (omega arith)) h.utf8);
  spans = λ rest e. token mark.Node (95 ∷ 58 ∷ label) rest (node_shape label h.each) e;
  matching = match.node label;
  spelled = λ words. (refl, λ e. let some = h.some in omega (arith, ap length e));
}

digit_letter : (c : ℕ) → IsInRange 48 57 c → is_ascii_alphanumeric c ≡ true
digit_letter c h = grind arith

digits_letters : (ds : List ℕ) → AllDigits 10 ds → AllPass is_ascii_alphanumeric ds
digits_letters ds h = All-from_get_or (λ c. is_ascii_alphanumeric c ≡ true) ds 0 (λ i short. digit_letter (get_or ds i 0) (digit_at ds i h short))

pub number : (n : ℕ) → SpellableNumber n → Written (decimal n) (λ words. IsNumber n)
number n h =
    let small : n < 2 ^ 64 = omega arith in
    let digits = decimal_is_IsNumeral n small in
    record {
      tokens = says.Plain (decimal n) ∷ [];
      utf8 = IsUtf8-from_ascii (decimal n) (IsAscii-decimal n small);
      spans = λ rest e. token mark.Plain (decimal n) rest (plain_shape (decimal n) digits.0.0 (digits_letters (decimal n) digits.0.1)) e;
      matching = match.word (decimal n);
      spelled = λ words. (decimal n, refl, digits.0, digits.1, h);
    }

quoted_spans : (text rest : List ℕ) → Spans (quoted text ++ rest) (says.Text text ∷ []) rest
quoted_spans text rest =
    subst (λ xs. Spans (34 ∷ xs) (says.Text text ∷ []) rest) (ap (λ xs. xs ++ 34 ∷ rest) (sym (escaped_same text)) ∙ sym (append_assoc (escaped text) (34 ∷ []) rest)) (string text rest)

quoted_utf8 : (text : List ℕ) → IsUtf8 text → IsUtf8 (quoted text)
quoted_utf8 text utf8 = IsUtf8-append (34 ∷ []) (escaped text ++ 34 ∷ []) (byte_utf8 34 (omega arith)) (IsUtf8-append (escaped text) (34 ∷ []) (escaped_utf8 text utf8) (byte_utf8 34 (omega arith)))

pub literal : (l : Literal) → SpellableLiteral l → Written (canon_literal l) (λ words. SpellsLiteral words l)
literal (literals.Plain text) h = record {
  tokens = says.Text text ∷ [];
  utf8 = quoted_utf8 text h;
  spans = λ rest e. quoted_spans text rest;
  matching = match.string text;
  spelled = λ words. refl;
}
literal (literals.Lang text tag) h = record {
  tokens = says.Text text ∷ says.Lang tag ∷ [];
  utf8 = IsUtf8-append (quoted text) (64 ∷ tag) (quoted_utf8 text h.0) (IsUtf8-append (64 ∷ []) tag (byte_utf8 64 (omega arith)) h.1.utf8);
  spans = λ rest e. subst (λ xs. Spans xs (says.Text text ∷ says.Lang tag ∷ []) rest) (sym (append_assoc (quoted text) (64 ∷ tag) rest)) (joined (quoted_spans text (64 ∷ (tag ++ rest))) (token mark.Lang (64 ∷ tag) rest (lang_shape tag h.1.some h.1.each) e));
  matching = match.both (says.Text text ∷ []) (says.Lang tag ∷ []) (match.string text) (match.tag tag);
  spelled = λ words. refl;
}
literal (literals.Typed text datatype) h =
    let tokens : Text = says.Text text ∷ says.Carets ∷ says.Iri datatype ∷ [] in
    record {
      tokens = tokens;
      utf8 = IsUtf8-append (quoted text) (94 ∷ 94 ∷ canon_iri datatype) (quoted_utf8 text h.0) (IsUtf8-append (94 ∷ []) (94 ∷ canon_iri datatype) (byte_utf8 94 (omega arith)) (IsUtf8-append (94 ∷ []) (canon_iri datatype) (byte_utf8 94 (omega arith)) (iri_utf8 datatype h.1.utf8)));
      spans = λ rest e. subst (λ xs. Spans xs tokens rest) (sym (append_assoc (quoted text) (94 ∷ 94 ∷ canon_iri datatype) rest)) (joined (quoted_spans text (94 ∷ 94 ∷ (canon_iri datatype ++ rest))) (joined (token mark.Carets (94 ∷ 94 ∷ []) (canon_iri datatype ++ rest) refl tt) (iri_spans datatype rest h.1.each)));
      matching = match.both (says.Text text ∷ []) (says.Carets ∷ says.Iri datatype ∷ []) (match.string text) (match.both (says.Carets ∷ []) (says.Iri datatype ∷ []) match.carets (match.iri datatype));
      spelled = λ words. (says.Iri datatype ∷ [], refl, (says.Iri datatype, refl, refl));
    }

pub property : (p : ObjProp) → SpellableProperty p → Written (canon_property p) (λ words. SpellsProperty words p)
property (props.Named n) h = name n h
property (props.Inverse n) h = phrase kw.ObjectInverseOf refl (canon_iri n ∷ []) (name n h)

pub individual : (i : Individual) → SpellableIndividual i → Written (canon_individual i) (λ words. SpellsIndividual words i)
individual (individuals.Named n) h = name n h
individual (individuals.Anonymous label) h = anonymous label h

pub facet : (f : Facet) → SpellableFacet f → Written (canon_facet f) (λ words. SpellsFacet words f)
facet f h = next (canon_iri f.facet) (name f.facet h.0) (canon_literal f.value ∷ []) (literal f.value h.1)

pub subject : (s : Subject) → SpellableSubject s → Written (canon_subject s) (λ words. SpellsSubject words s)
subject (subjects.Iri n) h = name n h
subject (subjects.Anonymous label) h = anonymous label h

pub value : (v : Value) → SpellableValue v → Written (canon_value v) (λ words. SpellsValue words v)
value (values.Iri n) h = name n h
value (values.Anonymous label) h = anonymous label h
value (values.Literal l) h = literal l h

kind_is_word : (k : EntityKind) → is_word (entity_kind_word k) ≡ true
kind_is_word kinds.Class = refl
kind_is_word kinds.Datatype = refl
kind_is_word kinds.ObjectProperty = refl
kind_is_word kinds.DataProperty = refl
kind_is_word kinds.AnnotationProperty = refl
kind_is_word kinds.NamedIndividual = refl

pub entity : (e : Entity) → SpellableEntity e → Written (canon_entity e) (λ words. SpellsEntity words e)
entity e h = phrase (entity_kind_word e.kind) (kind_is_word e.kind) (canon_iri e.name ∷ []) (name e.name h)
