-- A text spells one thing, or is refused for one cause.
use Rattle.std.proofs.Common.{◌≡◌, ℕ, ◌+◌, ◌<◌, ◌≤◌, ◌⊎◌, inl, inr, false, List, [], ◌∷◌, ◌++◌, length, drop, map, Option, None, Some, refl, sym, ◌∙◌, ap, subst, arith, take-append-drop}
use Rattle.std.specs.Prelude.{Result, Ok, Err, IfOk, IfErr, codes}
use Rattle.std.specs.Option.{is_some}
use Rattle.std.proofs.Math.Nat.{eq-or-lt_of_le}
use Rattle.std.proofs.lemmas.Bool.{true≢false}
use Rattle.ad_lex.specs.Lexed.{IsLexed}
use Rattle.ad_lex.specs.Lexemes.{Lexeme, lexemes}
use Rattle.ad_lex.specs.Lexemes as says
use Rattle.ad_lex.specs.declared.token.Token.{Token}
use Rattle.ad_lex.proofs.Once.{lexed_once, lexed_or_fault}
use Rattle.ad_tree.specs.declared.axioms.Noted.{Noted}
use Rattle.ad_entity.specs.declared.entities.Entity.{Entity}
use Rattle.ad_tree.specs.declared.edits.Op.{Op}
use Rattle.ad_grammar.specs.Shapes.{Text, Many0}
use Rattle.ad_grammar.specs.Names.{Words, SpellsEntity}
use Rattle.ad_grammar.specs.Axioms.{SpellsNoted}
use Rattle.ad_grammar.specs.Texts.{Declared, AreDistinct, iri_of, in_force, Ontology, SpellsOp, SpellsEdit, SpellsSeed, SpellsSingle}
use Rattle.ad_grammar.specs.Faults.{Form, IsOf, IsFirstFault}
use Rattle.ad_grammar_laws.specs.Known.{AreKnown}
use Rattle.ad_grammar_laws.proofs.Words.{known_second}
use Rattle.ad_terms.specs.Items.{as_axiom}
use Rattle.ad_build.specs.Lists.{addition}
use Rattle.ad_build.proofs.TextLemmas.{stated_read, operations_read, entities_of}
use Rattle.ad_build.proofs.Uniqueness.{once, noteds_read}
use Rattle.ad_read.specs.Prefixed.{IsUnknown, IsDeclaredTwice}
use Rattle.ad_read.specs.Texts.{depth, IsText, SpellsAdditions}
use Rattle.ad_read.specs.Outcome.{StopsAt, Refuses, IsReadOrMemory}
use Rattle.ad_read.specs.Opened.{text_of, form_of}
use Rattle.ad_read.specs.declared.texts.ReadRefused.{ReadRefused}
use Rattle.ad_read.specs.declared.texts.ReadRefused.TheVariants as refused_by
use Rattle.ad_read.specs.declared.texts.whole.Whole.{Whole}
use Rattle.ad_read.specs.declared.texts.whole.Whole.TheVariants.{Document, Edit, Seed, Single}
use Rattle.ad_read.proofs.Declarations.{text_is, split_once, within, not_distinct}
use Rattle.ad_read.proofs.Forms.{Body, over_body, body_moves, of_form}

some_same : {X : Type 0} (x y : X) → Some x ≡ Some y → x ≡ y
some_same {X} x y e = ap from e
  where
    from : Option X → X
    from None = x
    from (Some z) = z

none_not_some : {X : Type 0} (x : X) → None ≡ Some x → ⊥
none_not_some x h = absurd (true≢false (sym (ap is_some h)))

-- a relation that spells the bodies of a kind of text, each as one value
pub record Reading (whole : Whole) (X : Type 0) (spells : List Declared → X → Text → Type 0) : Type 1 where
  pub body : Words → X → Text → Type 0
  pub parts : (declared : List Declared) (x : X) (ts : Text) → spells declared x ts → (b : Text) × (ts ≡ text_of declared ++ b) × body (in_force declared) x b
  pub as_body : (words : Words) (x : X) (b : Text) → body words x b → Body whole words b
  pub one : (words : Words) (x y : X) (b : Text) → body words x b → body words y b → x ≡ y

abbrev OfDocument : Words → List Op → Text → Type 0
OfDocument words ops b = (stated : List Noted) × (ops ≡ map addition stated) × Ontology false words (Many0 (SpellsNoted false words) stated) b

abbrev OfSingle : Words → Noted → Text → Type 0
OfSingle words x b = (y : Body Single words b) × (y.0 ≡ x)

pub documents : Reading Document (List Op) SpellsAdditions
documents = record {
  body = OfDocument;
  parts = λ declared ops ts h. document_parts declared ops ts h;
  as_body = λ words ops b h. (h.0, h.2);
  one = λ words xs ys b h h'. h.1 ∙ some_same _ _ (sym (stated_read words h.0 b h.2) ∙ stated_read words h'.0 b h'.2) ∙ sym h'.1;
}
  where
    document_parts : (declared : List Declared) (ops : List Op) (ts : Text) → SpellsAdditions declared ops ts → (b : Text) × (ts ≡ text_of declared ++ b) × OfDocument (in_force declared) ops b
    document_parts declared ops ts (stated, are, (a, b, e, d, h)) = (b, e ∙ ap (λ us. us ++ b) (text_is declared a d), (stated, are, h))

pub edits : Reading Edit (List Op) SpellsEdit
edits = record {
  body = λ words. Many0 (SpellsOp words);
  parts = λ declared ops ts h. edit_parts declared ops ts h;
  as_body = λ words ops b h. (ops, h);
  one = λ words xs ys b h h'. some_same _ _ (sym (operations_read words xs b h) ∙ operations_read words ys b h');
}
  where
    edit_parts : (declared : List Declared) (ops : List Op) (ts : Text) → SpellsEdit declared ops ts → (b : Text) × (ts ≡ text_of declared ++ b) × Many0 (SpellsOp (in_force declared)) ops b
    edit_parts declared ops ts (a, b, e, d, h) = (b, e ∙ ap (λ us. us ++ b) (text_is declared a d), h)

pub seeds : Reading Seed (List Entity) SpellsSeed
seeds = record {
  body = λ words. Many0 (SpellsEntity words);
  parts = λ declared xs ts h. seed_parts declared xs ts h;
  as_body = λ words xs b h. (xs, h);
  one = λ words xs ys b h h'. some_same _ _ (sym (entities_of words xs b h) ∙ entities_of words ys b h');
}
  where
    seed_parts : (declared : List Declared) (xs : List Entity) (ts : Text) → SpellsSeed declared xs ts → (b : Text) × (ts ≡ text_of declared ++ b) × Many0 (SpellsEntity (in_force declared)) xs b
    seed_parts declared xs ts (a, b, e, d, h) = (b, e ∙ ap (λ us. us ++ b) (text_is declared a d), h)

pub singles : Reading Single Noted SpellsSingle
singles = record {
  body = OfSingle;
  parts = λ declared x ts h. single_parts declared x ts h;
  as_body = λ words x b h. h.0;
  one = λ words x y b h h'. sym h.1 ∙ once words (SpellsNoted false words) as_axiom (noteds_read words) h.0.0 h'.0.0 b h.0.2 h'.0.2 ∙ h'.1;
}
  where
    single_parts : (declared : List Declared) (x : Noted) (ts : Text) → SpellsSingle declared x ts → (b : Text) × (ts ≡ text_of declared ++ b) × OfSingle (in_force declared) x b
    single_parts declared x ts (logical, (a, b, e, d, h)) = (b, e ∙ ap (λ us. us ++ b) (text_is declared a d), ((x, logical, h), refl))

-- a text of the form has no first fault
pub fault_not_of : (form : Form) (ts : Text) (at : ℕ) → IsFirstFault form ts at → IsOf false form ts → ⊥
fault_not_of form ts at f h = by_place (eq-or-lt_of_le f.within)
  where
    by_place : (at ≡ length ts) ⊎ (at < length ts) → ⊥
    by_place (inr below) = f.token below (drop (at + 1) ts, subst (IsOf false form) (sym (take-append-drop (at + 1) ts)) h)
    by_place (inl last) = f.end last h

module _ (whole : Whole) (X : Type 0) (spells : List Declared → X → Text → Type 0) (r : Reading whole X spells) (limit : ℕ) (text : List ℕ) where
  -- a text spells one value at most
  pub text_once : (x y : X) → IsText (form_of whole) spells limit text x → IsText (form_of whole) spells limit text y → x ≡ y
  text_once x y h h' =
      let same : h'.tokens ≡ h.tokens = lexed_once text h'.tokens h.tokens h'.shallow.lexed h.shallow.lexed in
      let p = r.parts h.declared x (lexemes text h.tokens) h.spelled in
      let p' = r.parts h'.declared y (lexemes text h'.tokens) h'.spelled in
      let w : Words = in_force h.declared in
      let s = split_once h'.declared h.declared p'.0 p.0 (over_body whole (in_force h'.declared) p'.0 (r.as_body (in_force h'.declared) y p'.0 p'.2)) (over_body whole w p.0 (r.as_body w x p.0 p.2)) (sym p'.1 ∙ ap (lexemes text) same ∙ p.1) in
      r.one w x y p.0 p.2 (subst (r.body w y) s.1 (subst (λ ds. r.body (in_force ds) y p'.0) s.0 p'.2))

  -- and is not refused then
  module _ (x : X) (h : IsText (form_of whole) spells limit text x) where
    p : (b : Text) × (lexemes text h.tokens ≡ text_of h.declared ++ b) × r.body (in_force h.declared) x b
    p = r.parts h.declared x (lexemes text h.tokens) h.spelled

    spelled_body : Body whole (in_force h.declared) p.0
    spelled_body = r.as_body (in_force h.declared) x p.0 p.2

    is_of : IsOf false (form_of whole) (lexemes text h.tokens)
    is_of = of_form whole (in_force h.declared) h.declared p.0 (lexemes text h.tokens) p.1 spelled_body

    tokens_same : (tokens : List Token) → IsLexed text tokens → lexemes text tokens ≡ lexemes text h.tokens
    tokens_same tokens l = ap (lexemes text) (lexed_once text tokens h.tokens l h.shallow.lexed)

    no_stop : (at : ℕ) (what : Option _) → StopsAt (form_of whole) limit text at what → ⊥
    no_stop at what (tokens, shallow, token, first, says_so, place_is) = fault_not_of (form_of whole) (lexemes text h.tokens) token (subst (λ ts. IsFirstFault (form_of whole) ts token) (tokens_same tokens shallow.lexed) first) is_of

    not_too_deep : (n m : ℕ) → n ≡ m → limit < n → m ≤ limit → ⊥
    not_too_deep n m e above below = omega (arith, e, above, below)

    no_depth : (n : ℕ) → Refuses (form_of whole) limit text (refused_by.Depth n) → ⊥
    no_depth n (tokens, l, e, above) = not_too_deep n (depth (form_of whole) (lexemes text h.tokens)) (e ∙ ap (depth (form_of whole)) (tokens_same tokens l)) above h.shallow.within

    no_unknown : (ts : Text) (at : ℕ) → ts ≡ lexemes text h.tokens → IsUnknown ts at → ⊥
    no_unknown ts at e u =
        let behind : Text = u.names ++ says.Short u.prefix u.local ∷ u.rest in
        let s = split_once u.declared h.declared behind p.0 u.over (over_body whole (in_force h.declared) p.0 spelled_body) (ap (λ us. us ++ behind) (sym (text_is u.declared u.front u.spelled)) ∙ sym u.is ∙ e ∙ p.1) in
        let known : AreKnown (in_force h.declared) p.0 = (body_moves whole (in_force h.declared) (in_force h.declared) p.0 spelled_body).0 in
        let here : AreKnown (in_force h.declared) (says.Short u.prefix u.local ∷ u.rest) = known_second (in_force h.declared) u.names (says.Short u.prefix u.local ∷ u.rest) (subst (AreKnown (in_force h.declared)) (sym s.1) known) in
        none_not_some here.0.0 (sym u.unknown ∙ ap (λ ds. in_force ds u.prefix) s.0 ∙ here.0.1)

    no_twice : (ts : Text) (at : ℕ) → ts ≡ lexemes text h.tokens → IsDeclaredTwice ts at → ⊥
    no_twice ts at e t =
        let q = within h.declared t.before p.0 t.rest t.prefix (over_body whole (in_force h.declared) p.0 spelled_body) (sym p.1 ∙ sym e ∙ t.is ∙ ap (λ us. us ++ says.Plain (codes "Prefix") ∷ says.Left ∷ says.Short t.prefix [] ∷ t.rest) (text_is t.before t.front t.spelled)) in
        not_distinct t.before q.0 q.1 t.iri (ap (iri_of t.before) q.3 ∙ t.again) (subst AreDistinct q.2 h.once)

    pub text_refused : (refused : ReadRefused) → Refuses (form_of whole) limit text refused → refused ≡ refused_by.Memory
    text_refused (refused_by.Lex fault) f = absurd (lexed_or_fault text h.tokens fault h.shallow.lexed f)
    text_refused (refused_by.Depth n) f = absurd (no_depth n f)
    text_refused (refused_by.Syntax at) f = absurd (no_stop at None f)
    text_refused (refused_by.Unsupported at what) f = absurd (no_stop at (Some what) f)
    text_refused (refused_by.Prefix at) (tokens, formed, token, u, e) = absurd (no_unknown (lexemes text tokens) token (tokens_same tokens formed.shallow.lexed) u)
    text_refused (refused_by.PrefixTwice at) (tokens, formed, token, t, e) = absurd (no_twice (lexemes text tokens) token (tokens_same tokens formed.shallow.lexed) t)
    text_refused refused_by.Memory f = refl

  -- so a text that spells a value is read as it
  pub answered : (result : Result X ReadRefused) → IfOk result (IsText (form_of whole) spells limit text) → IfErr result (Refuses (form_of whole) limit text) → (x : X) → IsText (form_of whole) spells limit text x → IsReadOrMemory result x
  answered (Ok found) ok err x h = text_once found x ok h
  answered (Err refused) ok err x h = text_refused x h refused err
