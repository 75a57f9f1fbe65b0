-- Each text spells a value, or there is a cause to refuse it.
use Rattle.std.proofs.Common.{◌≡◌, ◌≢◌, ℕ, suc, ◌+◌, ◌<◌, ◌≤◌, ◌⊎◌, inl, inr, Bool, true, false, List, [], ◌∷◌, ◌++◌, length, drop, map, find, get_or, Option, None, Some, refl, sym, ◌∙◌, ap, subst, arith, append_assoc, append-nil, drop-cons}
use Rattle.ad_write.specs.Keywords as kw
use Rattle.std.specs.Str.{bytes_eq}
use Rattle.std.proofs.lemmas.Bool.{true≢false, cases_lt}
use Rattle.std.proofs.lemmas.List.{length-map, length-append, drop-map}
use Rattle.ad_lex.specs.Lexed.{IsLexed, IsFault}
use Rattle.ad_lex.specs.Lexemes.{Lexeme, lexeme, lexemes}
use Rattle.ad_lex.specs.Lexemes as says
use Rattle.ad_lex.specs.declared.token.Token.{Token}
use Rattle.ad_lex.specs.declared.token.LexFault.{LexFault}
use Rattle.ad_lex.proofs.Pieces.{bytes_same, bytes_eq-refl}
use Rattle.ad_lex.proofs.Readings.{lexed_or_faulty}
use Rattle.ad_tree.specs.declared.axioms.Noted.{Noted}
use Rattle.ad_tree.specs.declared.edits.Op.{Op}
use Rattle.ad_entity.specs.declared.entities.Entity.{Entity}
use Rattle.ad_grammar.specs.Shapes.{Text}
use Rattle.ad_grammar.specs.Texts.{Declared, AreDistinct, iri_of, in_force, SpellsEdit, SpellsSeed, SpellsSingle}
use Rattle.ad_grammar.specs.Faults.{Form, document, edit, seed, single, IsOf, IsFirstFault, IsWide, Tells}
use Rattle.ad_check.specs.Machine.{fault, start}
use Rattle.ad_check.specs.Stops.{IsAddition, GoesOnBy}
use Rattle.ad_check.specs.declared.items.Halt.{Halt}
use Rattle.ad_check.specs.declared.texts.Unsupported.{Unsupported}
use Rattle.ad_check.specs.declared.texts.Unsupported.TheVariants.{Import, Rule, Nary}
use Rattle.ad_check.proofs.FirstFault.{first_fault, wide_fault, whole_is}
use Rattle.ad_check.proofs.Checked.{bounds}
use Rattle.ad_prefixes.specs.Declarations.{declared as as_declared, declarations}
use Rattle.ad_prefixes.specs.Heads.{heads}
use Rattle.ad_build.specs.Lists.{addition}
use Rattle.ad_read.specs.Texts.{depth, IsShallow, IsFormed, IsText, SpellsAdditions, place}
use Rattle.ad_read.specs.Outcome.{Refuses}
use Rattle.ad_read.specs.Opened.{form_of, text_of, is_unknown_in, IsOpened}
use Rattle.ad_read.specs.Laws.{SpellsOrIsRefused}
use Rattle.ad_read.specs.declared.texts.ReadRefused.{ReadRefused}
use Rattle.ad_read.specs.declared.texts.ReadRefused.TheVariants as refused_by
use Rattle.ad_read.specs.declared.texts.whole.Whole.{Whole}
use Rattle.ad_read.specs.declared.texts.whole.Whole.TheVariants.{Document, Edit, Seed, Single}
use Rattle.ad_read.proofs.Declarations.{is_text, text_of_both, length_text, heads_are, distinct_more}
use Rattle.ad_read.proofs.Forms.{Body, Formed, formed, over_body}
use Rattle.ad_read.proofs.Opening.{refuses_unknown, opened_body, document_is, edit_is, seed_is, single_is}

-- a token tells which part of the wide grammar goes on at it
abbrev word_in : Lexeme → List ℕ
word_in (says.Plain word) = word
word_in t = []

abbrev is_plain : Lexeme → Bool
is_plain (says.Plain word) = true
is_plain t = false

plain_is : (t : Lexeme) → is_plain t ≡ true → t ≡ says.Plain (word_in t)
plain_is (says.Plain word) h = refl
plain_is t h = cc

no_plain : (t : Lexeme) (word : List ℕ) → is_plain t ≡ false → t ≢ says.Plain word
no_plain t word h e = true≢false (sym (ap is_plain e) ∙ h)

other_word : (t : Lexeme) (word : List ℕ) → bytes_eq (word_in t) word ≡ false → t ≢ says.Plain word
other_word t word h e = true≢false (sym (bytes_eq-refl word) ∙ ap (λ us. bytes_eq us word) (sym (ap word_in e)) ∙ h)

same_word : (t : Lexeme) (word : List ℕ) → is_plain t ≡ true → bytes_eq (word_in t) word ≡ true → t ≡ says.Plain word
same_word t word h e = plain_is t h ∙ ap says.Plain (bytes_same (word_in t) word e)

told : (t : Lexeme) → (what : Unsupported) × IsAddition what t
told t = by_plain (is_plain t) refl
  where
    by_rule : (b : Bool) → bytes_eq (word_in t) kw.DLSafeRule ≡ b → is_plain t ≡ true → t ≢ says.Plain kw.Import → (what : Unsupported) × IsAddition what t
    by_rule true e plain other = (Rule, same_word t kw.DLSafeRule plain e)
    by_rule false e plain other = (Nary, (other, other_word t kw.DLSafeRule e))

    by_import : (b : Bool) → bytes_eq (word_in t) kw.Import ≡ b → is_plain t ≡ true → (what : Unsupported) × IsAddition what t
    by_import true e plain = (Import, same_word t kw.Import plain e)
    by_import false e plain = by_rule (bytes_eq (word_in t) kw.DLSafeRule) refl plain (other_word t kw.Import e)

    by_plain : (b : Bool) → is_plain t ≡ b → (what : Unsupported) × IsAddition what t
    by_plain true e = by_import (bytes_eq (word_in t) kw.Import) refl e
    by_plain false e = (Nary, (no_plain t kw.Import e, no_plain t kw.DLSafeRule e))

-- a text is of the form, or has a first fault
abbrev Stops : Form → Text → Type 0
Stops form ts = (at : ℕ) × (what : Option Unsupported) × IsFirstFault form ts at × GoesOnBy form ts at what

stops : (form : Form) (ts : Text) (stop : Halt) → fault 0 (start form) ts ≡ Some stop → Stops form ts
stops form ts stop h = by_wide stop.wide refl
  where
    wide_is : (b : Bool) → stop.wide ≡ b → Tells b (IsWide form ts stop.token)
    wide_is b e = subst (λ w. Tells w (IsWide form ts stop.token)) e (wide_fault form ts stop h)

    by_wide : (b : Bool) → stop.wide ≡ b → Stops form ts
    by_wide false e = (stop.token, None, first_fault form ts stop h, wide_is false e)
    by_wide true e =
        let below : stop.token < length ts = omega (arith, (bounds ts (start form) 0 stop h).token e) in
        let t : Lexeme = get_or ts stop.token says.Left in
        let q = told t in
        (stop.token, Some q.0, first_fault form ts stop h, (wide_is true e, (t, drop (suc stop.token) ts, drop-cons ts stop.token says.Left below, q.1)))

of_or_stops : (form : Form) (ts : Text) → IsOf false form ts ⊎ Stops form ts
of_or_stops form ts = by_fault (fault 0 (start form) ts) refl
  where
    by_fault : (o : Option Halt) → fault 0 (start form) ts ≡ o → IsOf false form ts ⊎ Stops form ts
    by_fault None e = inl (whole_is form ts e)
    by_fault (Some stop) e = inr (stops form ts stop e)

-- declarations declare each prefix once, or one of them is the first that doesn't
record Again (ds : List Declared) : Type 0 where
  before : List Declared
  again : Declared
  after : List Declared
  iri : List ℕ
  is : ds ≡ before ++ again ∷ after
  once : AreDistinct before
  twice : iri_of before again.prefix ≡ Some iri

once_or_again : (before after : List Declared) → AreDistinct before → AreDistinct (before ++ after) ⊎ Again (before ++ after)
once_or_again before [] h = inl (subst AreDistinct (sym (append-nil before)) h)
once_or_again before (d ∷ after) h = by_known (iri_of before d.prefix) refl (once_or_again (before ++ d ∷ []) after)
  where
    by_known : (o : Option (List ℕ)) → iri_of before d.prefix ≡ o → (AreDistinct (before ++ d ∷ []) → AreDistinct ((before ++ d ∷ []) ++ after) ⊎ Again ((before ++ d ∷ []) ++ after))
        → AreDistinct (before ++ d ∷ after) ⊎ Again (before ++ d ∷ after)
    by_known (Some iri) e later = inr (record { before = before; again = d; after = after; iri = iri; is = refl; once = h; twice = e })
    by_known None e later = subst (λ ds. AreDistinct ds ⊎ Again ds) (append_assoc before (d ∷ []) after) (later (distinct_more before d h e))

none_distinct : AreDistinct []
none_distinct = λ i j x below within. absurd (omega (arith, within))

-- the declarations as pairs
pairs : List Declared → List (List ℕ × List ℕ)
pairs [] = []
pairs (d ∷ ds) = (d.prefix, d.iri) ∷ pairs ds

pairs_are : (ds : List Declared) → declarations (pairs ds) ≡ ds
unfolding pairs
pairs_are [] = refl
pairs_are (d ∷ ds) = ap (λ es. d ∷ es) (pairs_are ds)

behind_front : {A : Type 0} (xs ys : List A) → drop (length xs) (xs ++ ys) ≡ ys
behind_front [] ys = refl
behind_front (x ∷ xs) ys = behind_front xs ys

abbrev is_cause : ReadRefused → Bool
is_cause refused_by.Memory = false
is_cause refused = true

a_cause : (refused : ReadRefused) → is_cause refused ≡ true → refused ≢ refused_by.Memory
a_cause refused h e = true≢false (sym h ∙ ap is_cause e)

module _ (whole : Whole) (limit : ℕ) (text : List ℕ) where
  abbrev Refused : Type 0
  Refused = (refused : ReadRefused) × (refused ≢ refused_by.Memory) × Refuses (form_of whole) limit text refused

  abbrev Opens : Type 0
  Opens = (tokens : List Token) × (prefixes : List (List ℕ × List ℕ)) × (behind : ℕ) × IsOpened whole limit text tokens prefixes behind

  module _ (tokens : List Token) (f : IsFormed (form_of whole) limit text tokens) where
    own : Formed whole (lexemes text tokens)
    own = formed whole (lexemes text tokens) f.formed

    heads_own : heads (lexemes text tokens) ≡ (own.declared, own.body)
    heads_own = ap heads own.is ∙ heads_are own.declared own.body (over_body whole own.words own.body own.spelled)

    declared_again : Again own.declared → Refused
    declared_again a =
        let token : ℕ = length (text_of a.before) + 2 in (
          refused_by.PrefixTwice (place text tokens token),
          a_cause (refused_by.PrefixTwice (place text tokens token)) refl,
          (
            tokens,
            f,
            token,
            record {
              before = a.before;
              front = text_of a.before;
              rest = says.Equals ∷ says.Iri a.again.iri ∷ says.Right ∷ (text_of a.after ++ own.body);
              prefix = a.again.prefix;
              iri = a.iri;
              is = own.is ∙ ap (λ ds. text_of ds ++ own.body) a.is ∙ ap (λ us. us ++ own.body) (text_of_both a.before (a.again ∷ a.after)) ∙ append_assoc (text_of a.before) (text_of (a.again ∷ a.after)) own.body;
              spelled = is_text a.before;
              once = a.once;
              again = a.twice;
              place = refl;
            },
            refl,
          ),
        )

    abbrev behind : ℕ
    behind = length (text_of own.declared)

    within : behind ≤ length tokens
    within =
        let n : length tokens ≡ length (text_of own.declared) + length own.body = sym (length-map tokens (lexeme text)) ∙ ap length own.is ∙ length-append (text_of own.declared) own.body in
        omega (arith, n)

    declared_are : declarations (pairs own.declared) ≡ (heads (lexemes text tokens)).0
    declared_are = pairs_are own.declared ∙ sym (ap (λ h. h.0) heads_own)

    rest_is : lexemes text (drop behind tokens) ≡ (heads (lexemes text tokens)).1
    rest_is = sym (drop-map (lexeme text) behind tokens) ∙ ap (drop behind) own.is ∙ behind_front (text_of own.declared) own.body ∙ sym (ap (λ h. h.1) heads_own)

    declared_once : AreDistinct own.declared → Opens ⊎ Refused
    declared_once h = by_find (find (is_unknown_in text (pairs own.declared)) (drop behind tokens)) refl
      where
        once : AreDistinct (declarations (pairs own.declared))
        once = subst AreDistinct (sym (pairs_are own.declared)) h

        by_find : (o : Option Token) → find (is_unknown_in text (pairs own.declared)) (drop behind tokens) ≡ o → Opens ⊎ Refused
        by_find None e = inl (tokens, pairs own.declared, behind, record { formed = f; within = within; declared = declared_are; rest = rest_is; once = once; known = e })
        by_find (Some t) e = inr (
          refused_by.Prefix t.from,
          a_cause (refused_by.Prefix t.from) refl,
          refuses_unknown whole limit text tokens f (pairs own.declared) behind within declared_are rest_is once (refused_by.Prefix t.from) (t, e, refl),
        )

    formed_either : Opens ⊎ Refused
    formed_either = by_again (once_or_again [] own.declared none_distinct)
      where
        by_again : AreDistinct own.declared ⊎ Again own.declared → Opens ⊎ Refused
        by_again (inl h) = declared_once h
        by_again (inr a) = inr (declared_again a)

  module _ (tokens : List Token) (l : IsLexed text tokens) where
    stopped : IsShallow (form_of whole) limit text tokens → Stops (form_of whole) (lexemes text tokens) → Refused
    stopped shallow (token, None, first, said) = (refused_by.Syntax (place text tokens token), a_cause (refused_by.Syntax (place text tokens token)) refl, (tokens, shallow, token, first, said, refl))
    stopped shallow (token, Some what, first, said) = (refused_by.Unsupported (place text tokens token) what, a_cause (refused_by.Unsupported (place text tokens token) what) refl, (tokens, shallow, token, first, said, refl))

    shallow_either : IsShallow (form_of whole) limit text tokens → Opens ⊎ Refused
    shallow_either shallow = by_form (of_or_stops (form_of whole) (lexemes text tokens))
      where
        by_form : IsOf false (form_of whole) (lexemes text tokens) ⊎ Stops (form_of whole) (lexemes text tokens) → Opens ⊎ Refused
        by_form (inl h) = formed_either tokens (record { shallow = shallow; formed = h })
        by_form (inr s) = inr (stopped shallow s)

    lexed_either : Opens ⊎ Refused
    lexed_either = by_depth (cases_lt limit (depth (form_of whole) (lexemes text tokens)))
      where
        by_depth : (limit < depth (form_of whole) (lexemes text tokens)) ⊎ (depth (form_of whole) (lexemes text tokens) ≤ limit) → Opens ⊎ Refused
        by_depth (inl deep) = inr (refused_by.Depth (depth (form_of whole) (lexemes text tokens)), a_cause (refused_by.Depth (depth (form_of whole) (lexemes text tokens))) refl, (tokens, l, refl, deep))
        by_depth (inr h) = shallow_either (record { lexed = l; within = h })

  opens_or_refused : Opens ⊎ Refused
  opens_or_refused = by_tokens (lexed_or_faulty text)
    where
      by_tokens : ((tokens : List Token) × IsLexed text tokens) ⊎ ((first : LexFault) × IsFault text first) → Opens ⊎ Refused
      by_tokens (inl (tokens, l)) = lexed_either tokens l
      by_tokens (inr (first, h)) = inr (refused_by.Lex first, a_cause (refused_by.Lex first) refl, h)

  either_of : (X : Type 0) (spells : List Declared → X → Text → Type 0)
      → ((tokens : List Token) (prefixes : List (List ℕ × List ℕ)) (behind : ℕ) → IsOpened whole limit text tokens prefixes behind → (x : X) × IsText (form_of whole) spells limit text x)
      → ((x : X) × IsText (form_of whole) spells limit text x) ⊎ Refused
  either_of X spells spelled = by_opened opens_or_refused
    where
      by_opened : Opens ⊎ Refused → ((x : X) × IsText (form_of whole) spells limit text x) ⊎ Refused
      by_opened (inl (tokens, prefixes, behind, o)) = inl (spelled tokens prefixes behind o)
      by_opened (inr r) = inr r

pub document_either : SpellsOrIsRefused document SpellsAdditions
document_either limit text = either_of Document limit text (List Op) SpellsAdditions (λ tokens prefixes behind o.
    let b = opened_body limit text tokens prefixes behind Document o in
    (map addition b.0, document_is limit text tokens prefixes behind o (map addition b.0) b refl))

pub edit_either : SpellsOrIsRefused edit SpellsEdit
edit_either limit text = either_of Edit limit text (List Op) SpellsEdit (λ tokens prefixes behind o.
    let b = opened_body limit text tokens prefixes behind Edit o in
    (b.0, edit_is limit text tokens prefixes behind o b.0 b refl))

pub seed_either : SpellsOrIsRefused seed SpellsSeed
seed_either limit text = either_of Seed limit text (List Entity) SpellsSeed (λ tokens prefixes behind o.
    let b = opened_body limit text tokens prefixes behind Seed o in
    (b.0, seed_is limit text tokens prefixes behind o b.0 b refl))

pub single_either : SpellsOrIsRefused single SpellsSingle
single_either limit text = either_of Single limit text Noted SpellsSingle (λ tokens prefixes behind o.
    let b = opened_body limit text tokens prefixes behind Single o in
    (b.0, single_is limit text tokens prefixes behind o b.0 b refl))
