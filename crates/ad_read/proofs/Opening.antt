-- From what the readers found on the way to what a text spells, or why it is refused.
use Rattle.std.proofs.Common.{◌≡◌, ℕ, zero, suc, ◌+◌, ◌-◌, ◌*◌, ◌<◌, ◌≤◌, Bool, true, false, List, [], ◌∷◌, ◌++◌, length, take, drop, map, find, slice_get, is_some, Option, None, Some, refl, sym, ◌∙◌, ap, subst, arith, append_assoc, length-append, length-drop, length-take-le, take-append-drop}
use Rattle.std.specs.Prelude.{is_none, Result, Ok, Err, IfOk, IfErr, get_or}
use Rattle.std.proofs.lemmas.Bool.{true≢false}
use Rattle.std.proofs.lemmas.List.{length-map, map-append}
use Rattle.ad_lex.specs.Lexemes.{Lexeme, lexeme, lexemes}
use Rattle.ad_lex.specs.Lexemes as says
use Rattle.ad_lex.specs.declared.token.Token.{Token}
use Rattle.ad_tree.specs.declared.axioms.Noted.{Noted}
use Rattle.ad_entity.specs.declared.entities.Entity.{Entity}
use Rattle.ad_tree.specs.declared.edits.Op.{Op}
use Rattle.ad_grammar.specs.Shapes.{Text, Many0}
use Rattle.ad_grammar.specs.Names.{Words, SpellsEntity}
use Rattle.ad_grammar.specs.Axioms.{SpellsNoted}
use Rattle.ad_grammar.specs.Texts.{AreDistinct, iri_of, in_force, Ontology, SpellsOp}
use Rattle.ad_grammar.specs.Faults.{Form, IsFirstFault}
use Rattle.ad_check.specs.Stops.{GoesOnBy}
use Rattle.ad_check.specs.declared.texts.Stop.{Stop}
use Rattle.ad_grammar_laws.specs.Known.{IsKnown, AreKnown}
use Rattle.ad_prefixes.specs.Declarations.{declarations}
use Rattle.ad_prefixes.specs.Heads.{heads}
use Rattle.ad_prefixes.specs.Phrased.{IsTwiceAt, IfTwice}
use Rattle.ad_prefixes.specs.declared.heads.PrefixRefused.{PrefixRefused}
use Rattle.ad_prefixes.specs.declared.heads.PrefixRefused.TheVariants.{Twice}
use Rattle.ad_prefixes.specs.Unknown.{is_unknown}
use Rattle.ad_build.specs.Lists.{addition}
use Rattle.ad_read.specs.Prefixed.{IsOver}
use Rattle.ad_read.specs.Texts.{IsShallow, IsFormed, IsDocument, IsEdit, IsSeed, IsSingle, place}
use Rattle.ad_read.specs.Outcome.{Refuses}
use Rattle.ad_read.specs.Opened.{form_of, text_of, IsRefusalOf, RefusesUnknown, IsOpened}
use Rattle.ad_read.specs.declared.texts.ReadRefused.{ReadRefused}
use Rattle.ad_read.specs.declared.texts.ReadRefused.TheVariants as refused_by
use Rattle.ad_read.specs.declared.texts.whole.Whole.{Whole}
use Rattle.ad_read.specs.declared.texts.whole.Whole.TheVariants.{Document, Edit, Seed, Single}
use Rattle.ad_read.proofs.Declarations.{is_text, heads_are, text_of_both, length_text}
use Rattle.ad_read.proofs.Forms.{Body, over_body, body_moves, Formed, formed}

pub place_seam : (text : List ℕ) (front : List Token) (t : Token) (rest : List Token) → place text (front ++ t ∷ rest) (length front) ≡ t.from
place_seam text [] t rest = refl
place_seam text (x ∷ front) t rest = place_seam text front t rest

pub place_get : (text : List ℕ) (tokens : List Token) (k : ℕ) (t : Token) → slice_get tokens k ≡ Some t → place text tokens k ≡ t.from
place_get text [] k t h = absurd (true≢false (sym (ap is_some h)))
place_get text (x ∷ tokens) zero t h = ap from h
  where
    from : Option Token → ℕ
    from None = 0
    from (Some y) = y.from
place_get text (x ∷ tokens) (suc k) t h = place_get text tokens k t h

pub place_end : (text : List ℕ) (tokens : List Token) (k : ℕ) → length tokens ≤ k → place text tokens k ≡ length text
place_end text [] k h = refl
place_end text (x ∷ tokens) zero h = absurd (omega (arith, h))
place_end text (x ∷ tokens) (suc k) h = place_end text tokens k (omega (arith, h))

some_is : (o : Option (List ℕ)) → is_none o ≡ false → (x : List ℕ) × (o ≡ Some x)
some_is None h = absurd (true≢false h)
some_is (Some x) h = (x, refl)

none_is : (o : Option (List ℕ)) → is_none o ≡ true → o ≡ None
none_is None h = refl
none_is (Some x) h = absurd (true≢false (sym h))

pub is_some_is : (o : Option (List ℕ)) → is_some o ≡ true → (x : List ℕ) × (o ≡ Some x)
is_some_is None h = absurd (true≢false (sym h))
is_some_is (Some x) h = (x, refl)

known_if : (words : Words) (l : Lexeme) → is_unknown words l ≡ false → IsKnown words l
known_if words says.Left h = tt
known_if words says.Right h = tt
known_if words says.Equals h = tt
known_if words says.Carets h = tt
known_if words says.Plus h = tt
known_if words says.Minus h = tt
known_if words (says.Iri n) h = tt
known_if words (says.Text value) h = tt
known_if words (says.Plain word) h = tt
known_if words (says.Short prefix local) h = some_is (words prefix) h
known_if words (says.Node label) h = tt
known_if words (says.Lang tag) h = tt

unknown_if : (words : Words) (l : Lexeme) → is_unknown words l ≡ true → (prefix : List ℕ) × (local : List ℕ) × (l ≡ says.Short prefix local) × (words prefix ≡ None)
unknown_if words says.Left h = absurd (true≢false (sym h))
unknown_if words says.Right h = absurd (true≢false (sym h))
unknown_if words says.Equals h = absurd (true≢false (sym h))
unknown_if words says.Carets h = absurd (true≢false (sym h))
unknown_if words says.Plus h = absurd (true≢false (sym h))
unknown_if words says.Minus h = absurd (true≢false (sym h))
unknown_if words (says.Iri n) h = absurd (true≢false (sym h))
unknown_if words (says.Text value) h = absurd (true≢false (sym h))
unknown_if words (says.Plain word) h = absurd (true≢false (sym h))
unknown_if words (says.Short prefix local) h = (prefix, local, refl, none_is (words prefix) h)
unknown_if words (says.Node label) h = absurd (true≢false (sym h))
unknown_if words (says.Lang tag) h = absurd (true≢false (sym h))

pub none_not_some : {X : Type 0} (x : X) → None ≡ Some x → ⊥
none_not_some x h = absurd (true≢false (sym (ap is_some h)))

pub some_same : {X : Type 0} (x y : X) → Some x ≡ Some y → x ≡ y
some_same {X} x y e = ap from e
  where
    from : Option X → X
    from None = x
    from (Some z) = z

-- the first that passes a test
record First (words : Words) (text : List ℕ) (ts : List Token) (token : Token) : Type 0 where
  front : List Token
  rest : List Token
  is : ts ≡ front ++ token ∷ rest
  known : AreKnown words (lexemes text front)
  unknown : is_unknown words (lexeme text token) ≡ true

module _ (words : Words) (text : List ℕ) where
  first_found : (ts : List Token) (token : Token) → find (λ t. is_unknown words (lexeme text t)) ts ≡ Some token → First words text ts token
  first_found [] token h = absurd (true≢false (sym (ap is_some h)))
  first_found (t ∷ ts) token h = by_test (is_unknown words (lexeme text t)) refl (first_found ts token)
    where
      by_test : (b : Bool) → is_unknown words (lexeme text t) ≡ b → (find (λ u. is_unknown words (lexeme text u)) ts ≡ Some token → First words text ts token) → First words text (t ∷ ts) token
      by_test true e later =
          let same : t ≡ token = some_same t token (sym (rw e refl) ∙ h) in
          record { front = []; rest = ts; is = ap (λ u. u ∷ ts) same; known = tt; unknown = ap (λ u. is_unknown words (lexeme text u)) (sym same) ∙ e }
      by_test false e later =
          let f = later (sym (rw e refl) ∙ h) in
          record { front = t ∷ f.front; rest = f.rest; is = ap (λ us. t ∷ us) f.is; known = (known_if words (lexeme text t) e, f.known); unknown = f.unknown }

  pub none_found : (ts : List Token) → find (λ t. is_unknown words (lexeme text t)) ts ≡ None → AreKnown words (lexemes text ts)
  none_found [] h = tt
  none_found (t ∷ ts) h = by_test (is_unknown words (lexeme text t)) refl (none_found ts)
    where
      by_test : (b : Bool) → is_unknown words (lexeme text t) ≡ b → (find (λ u. is_unknown words (lexeme text u)) ts ≡ None → AreKnown words (lexemes text ts)) → AreKnown words (lexemes text (t ∷ ts))
      by_test true e later = absurd (none_not_some t (sym h ∙ rw e refl))
      by_test false e later = (known_if words (lexeme text t) e, later (sym (rw e refl) ∙ h))

module _ (whole : Whole) (limit : ℕ) (text : List ℕ) (tokens : List Token) (f : IsFormed (form_of whole) limit text tokens) where
  own : Formed whole (lexemes text tokens)
  own = formed whole (lexemes text tokens) f.formed

  own_over : IsOver own.body
  own_over = over_body whole own.words own.body own.spelled

  heads_own : heads (lexemes text tokens) ≡ (own.declared, own.body)
  heads_own = ap heads own.is ∙ heads_are own.declared own.body own_over

  -- a prefix that is declared twice
  pub refuses_twice : (at : ℕ) → IsTwiceAt text tokens at → Refuses (form_of whole) limit text (refused_by.PrefixTwice at)
  refuses_twice at (before, after, again, short, t) =
      let all : own.declared ≡ before ++ again ∷ after = sym (ap (λ h. h.0) heads_own) ∙ t.all in
      let iri = is_some_is (iri_of before again.prefix) t.twice in
      let number : length (text_of before) + 2 ≡ 6 * length before + 2 = ap (λ n. n + 2) (length_text before) in (
        tokens,
        f,
        length (text_of before) + 2,
        record {
          before = before;
          front = text_of before;
          rest = says.Equals ∷ says.Iri again.iri ∷ says.Right ∷ (text_of after ++ own.body);
          prefix = again.prefix;
          iri = iri.0;
          is = own.is ∙ ap (λ ds. text_of ds ++ own.body) all ∙ ap (λ us. us ++ own.body) (text_of_both before (again ∷ after)) ∙ append_assoc (text_of before) (text_of (again ∷ after)) own.body;
          spelled = is_text before;
          once = t.distinct;
          again = iri.1;
          place = refl;
        },
        t.here ∙ sym (place_get text tokens (6 * length before + 2) short t.third) ∙ ap (place text tokens) (sym number),
      )

  module _ (prefixes : List (List ℕ × List ℕ)) (behind : ℕ) (within : behind ≤ length tokens) (declared : declarations prefixes ≡ (heads (lexemes text tokens)).0) (rest : lexemes text (drop behind tokens) ≡ (heads (lexemes text tokens)).1) where
    ds_are : declarations prefixes ≡ own.declared
    ds_are = declared ∙ ap (λ h. h.0) heads_own

    rest_is : lexemes text (drop behind tokens) ≡ own.body
    rest_is = rest ∙ ap (λ h. h.1) heads_own

    pub whole_is : lexemes text tokens ≡ text_of (declarations prefixes) ++ lexemes text (drop behind tokens)
    whole_is = own.is ∙ ap (λ ds. text_of ds ++ own.body) (sym ds_are) ∙ ap (λ us. text_of (declarations prefixes) ++ us) (sym rest_is)

    -- a name whose prefix isn't known
    pub refuses_unknown : AreDistinct (declarations prefixes) → (refused : ReadRefused) → RefusesUnknown text tokens prefixes behind refused → Refuses (form_of whole) limit text refused
    refuses_unknown once (refused_by.Prefix at) (token, found, e) =
        let words : Words = in_force (declarations prefixes) in
        let first = first_found words text (drop behind tokens) token found in
        let name = unknown_if words (lexeme text token) first.unknown in
        let after : lexemes text (drop behind tokens) ≡ lexemes text first.front ++ says.Short name.0 name.1 ∷ lexemes text first.rest = ap (lexemes text) first.is ∙ map-append (lexeme text) first.front (token ∷ first.rest) ∙ ap (λ l. lexemes text first.front ++ l ∷ lexemes text first.rest) name.2 in
        let all : tokens ≡ (take behind tokens ++ first.front) ++ token ∷ first.rest = sym (take-append-drop behind tokens) ∙ ap (λ us. take behind tokens ++ us) first.is ∙ sym (append_assoc (take behind tokens) first.front (token ∷ first.rest)) in
        let long : length tokens ≡ length (text_of (declarations prefixes)) + (length tokens - behind) = sym (length-map tokens (lexeme text)) ∙ ap length whole_is ∙ length-append (text_of (declarations prefixes)) (lexemes text (drop behind tokens)) ∙ ap (λ n. length (text_of (declarations prefixes)) + n) (length-map (drop behind tokens) (lexeme text) ∙ length-drop behind tokens) in
        let number : length (take behind tokens ++ first.front) ≡ length (text_of (declarations prefixes)) + length (lexemes text first.front) = length-append (take behind tokens) first.front ∙ ap (λ n. n + length first.front) (length-take-le behind tokens within ∙ same_place (length tokens) behind (length (text_of (declarations prefixes))) within long) ∙ ap (λ n. length (text_of (declarations prefixes)) + n) (sym (length-map first.front (lexeme text))) in (
          tokens,
          f,
          length (text_of (declarations prefixes)) + length (lexemes text first.front),
          record {
            declared = declarations prefixes;
            front = text_of (declarations prefixes);
            names = lexemes text first.front;
            prefix = name.0;
            local = name.1;
            rest = lexemes text first.rest;
            is = whole_is ∙ ap (λ us. text_of (declarations prefixes) ++ us) after;
            spelled = is_text (declarations prefixes);
            once = once;
            over = subst IsOver (sym rest_is ∙ after) own_over;
            known = first.known;
            unknown = name.3;
            place = refl;
          },
          e ∙ sym (place_seam text (take behind tokens ++ first.front) token first.rest) ∙ ap (λ us. place text us (length (take behind tokens ++ first.front))) (sym all) ∙ ap (place text tokens) number,
        )
      where
        same_place : (n b t : ℕ) → b ≤ n → n ≡ t + (n - b) → b ≡ t
        same_place n b t below e' = omega (arith, below, e')
    refuses_unknown once (refused_by.Lex fault) h = absurd h
    refuses_unknown once (refused_by.Depth n) h = absurd h
    refuses_unknown once (refused_by.Syntax at) h = absurd h
    refuses_unknown once (refused_by.Unsupported at what) h = absurd h
    refuses_unknown once (refused_by.PrefixTwice at) h = absurd h
    refuses_unknown once refused_by.Memory h = absurd h

    pub body_known : AreKnown (in_force (declarations prefixes)) (lexemes text (drop behind tokens)) → Body whole (in_force (declarations prefixes)) (lexemes text (drop behind tokens))
    body_known known =
        let words : Words = in_force (declarations prefixes) in
        let moved = body_moves whole own.words words own.body own.spelled in
        subst (Body whole words) (sym rest_is) (moved.1 (subst (AreKnown words) rest_is known))

module _ (limit : ℕ) (text : List ℕ) (tokens : List Token) (prefixes : List (List ℕ × List ℕ)) (behind : ℕ) where
  pub opened_is : (whole : Whole) → IsOpened whole limit text tokens prefixes behind → lexemes text tokens ≡ text_of (declarations prefixes) ++ lexemes text (drop behind tokens)
  opened_is whole o = whole_is whole limit text tokens o.formed prefixes behind o.within o.declared o.rest

  pub opened_body : (whole : Whole) → IsOpened whole limit text tokens prefixes behind → Body whole (in_force (declarations prefixes)) (lexemes text (drop behind tokens))
  opened_body whole o = body_known whole limit text tokens o.formed prefixes behind o.within o.declared o.rest (none_found (in_force (declarations prefixes)) text (drop behind tokens) o.known)

  pub document_is : IsOpened Document limit text tokens prefixes behind → (ops : List Op) → (xs : Body Document (in_force (declarations prefixes)) (lexemes text (drop behind tokens))) → ops ≡ map addition xs.0 → IsDocument limit text ops
  document_is o ops xs e = record { tokens = tokens; shallow = o.formed.shallow; declared = declarations prefixes; once = o.once; spelled = (xs.0, e, (text_of (declarations prefixes), lexemes text (drop behind tokens), opened_is Document o, is_text (declarations prefixes), xs.1)) }

  pub edit_is : IsOpened Edit limit text tokens prefixes behind → (ops : List Op) → (xs : Body Edit (in_force (declarations prefixes)) (lexemes text (drop behind tokens))) → ops ≡ xs.0 → IsEdit limit text ops
  edit_is o ops xs e = record { tokens = tokens; shallow = o.formed.shallow; declared = declarations prefixes; once = o.once; spelled = (text_of (declarations prefixes), lexemes text (drop behind tokens), opened_is Edit o, is_text (declarations prefixes), subst (λ ys. Many0 (SpellsOp (in_force (declarations prefixes))) ys (lexemes text (drop behind tokens))) (sym e) xs.1) }

  pub seed_is : IsOpened Seed limit text tokens prefixes behind → (entities : List Entity) → (xs : Body Seed (in_force (declarations prefixes)) (lexemes text (drop behind tokens))) → entities ≡ xs.0 → IsSeed limit text entities
  seed_is o entities xs e = record { tokens = tokens; shallow = o.formed.shallow; declared = declarations prefixes; once = o.once; spelled = (text_of (declarations prefixes), lexemes text (drop behind tokens), opened_is Seed o, is_text (declarations prefixes), subst (λ ys. Many0 (SpellsEntity (in_force (declarations prefixes))) ys (lexemes text (drop behind tokens))) (sym e) xs.1) }

  pub single_is : IsOpened Single limit text tokens prefixes behind → (noted : Noted) → (x : Body Single (in_force (declarations prefixes)) (lexemes text (drop behind tokens))) → noted ≡ x.0 → IsSingle limit text noted
  single_is o noted x e = subst (IsSingle limit text) (sym e) (record { tokens = tokens; shallow = o.formed.shallow; declared = declarations prefixes; once = o.once; spelled = (x.1, (text_of (declarations prefixes), lexemes text (drop behind tokens), opened_is Single o, is_text (declarations prefixes), x.2)) })

-- the refusal of a first fault
pub refusal_is : (form : Form) (limit : ℕ) (text : List ℕ) (tokens list : List Token) (stop : Stop) (refused : ReadRefused) → IsShallow form limit text tokens → IsFirstFault form (lexemes text tokens) stop.token → GoesOnBy form (lexemes text tokens) stop.token stop.what → list ≡ tokens → IsRefusalOf text list stop refused → Refuses form limit text refused
refusal_is form limit text tokens list stop (refused_by.Syntax at) shallow first says same (none, e) = (tokens, shallow, stop.token, first, subst (GoesOnBy form (lexemes text tokens) stop.token) none says, e ∙ ap (λ us. place text us stop.token) same)
refusal_is form limit text tokens list stop (refused_by.Unsupported at what) shallow first says same (some, e) = (tokens, shallow, stop.token, first, subst (GoesOnBy form (lexemes text tokens) stop.token) some says, e ∙ ap (λ us. place text us stop.token) same)
refusal_is form limit text tokens list stop (refused_by.Lex fault) shallow first says same h = absurd h
refusal_is form limit text tokens list stop (refused_by.Depth n) shallow first says same h = absurd h
refusal_is form limit text tokens list stop (refused_by.Prefix at) shallow first says same h = absurd h
refusal_is form limit text tokens list stop (refused_by.PrefixTwice at) shallow first says same h = absurd h
refusal_is form limit text tokens list stop refused_by.Memory shallow first says same h = absurd h

pub weaker_ok : {T E : Type 0} (r : Result T E) (P Q : T → Type 0) → ((x : T) → P x → Q x) → IfOk r P → IfOk r Q
weaker_ok (Ok x) P Q f h = f x h
weaker_ok (Err e) P Q f h = h

pub weaker_err : {T E : Type 0} (r : Result T E) (P Q : E → Type 0) → ((x : E) → P x → Q x) → IfErr r P → IfErr r Q
weaker_err (Ok x) P Q f h = h
weaker_err (Err e) P Q f h = f e h

pub place_at : (text : List ℕ) (tokens : List Token) (k : ℕ) (d : Token) → k < length tokens → (get_or tokens k d).from ≡ place text tokens k
place_at text [] k d h = absurd (omega (arith, h))
place_at text (x ∷ tokens) zero d h = refl
place_at text (x ∷ tokens) (suc k) d h = place_at text tokens k d (omega (arith, h))

pub at_end : (text : List ℕ) (tokens : List Token) (k : ℕ) → length tokens ≤ k → length text ≡ place text tokens k
at_end text tokens k h = sym (place_end text tokens k h)

-- the same of the tokens as a slice
pub twice_refused : (whole : Whole) (limit : ℕ) (text : List ℕ) (tokens list : List Token) → IsFormed (form_of whole) limit text tokens → (at : ℕ) → list ≡ tokens → IsTwiceAt text list at → Refuses (form_of whole) limit text (refused_by.PrefixTwice at)
twice_refused whole limit text tokens list f at same t = refuses_twice whole limit text tokens f at (subst (λ us. IsTwiceAt text us at) same t)

pub unknown_refused : (whole : Whole) (limit : ℕ) (text : List ℕ) (tokens list : List Token) → IsFormed (form_of whole) limit text tokens → (prefixes : List (List ℕ × List ℕ)) (behind : ℕ) → list ≡ tokens → behind ≤ length list → declarations prefixes ≡ (heads (lexemes text list)).0 → lexemes text (drop behind list) ≡ (heads (lexemes text list)).1 → AreDistinct (declarations prefixes) → (refused : ReadRefused) → RefusesUnknown text tokens prefixes behind refused → Refuses (form_of whole) limit text refused
unknown_refused whole limit text tokens list f prefixes behind same within declared rest once refused h =
    refuses_unknown whole limit text tokens f prefixes behind (subst (λ us. behind ≤ length us) same within) (subst (λ us. declarations prefixes ≡ (heads (lexemes text us)).0) same declared) (subst (λ us. lexemes text (drop behind us) ≡ (heads (lexemes text us)).1) same rest) once refused h

pub twice_of : {T : Type 0} (r : Result T PrefixRefused) (refused : PrefixRefused) (at : ℕ) (P : ℕ → Type 0) → r ≡ Err refused → refused ≡ Twice at → IfTwice r P → P at
twice_of {T} r refused at P e e' h = subst (λ (x : Result T PrefixRefused). IfTwice x P) (e ∙ ap (λ y. let x : Result T PrefixRefused = Err y in x) e') h

-- the trees that are built are what the text spells
module _ (limit : ℕ) (text : List ℕ) (tokens list : List Token) (prefixes : List (List ℕ × List ℕ)) (behind : ℕ) (same : list ≡ tokens) where
  on_list : (P : Text → Type 0) → P (lexemes text (drop behind tokens)) → P (lexemes text (drop behind list))
  on_list P h = subst (λ us. P (lexemes text (drop behind us))) (sym same) h

  pub document_found : IsOpened Document limit text tokens prefixes behind → (found : Option (List Op)) → ((xs : List Noted) → Ontology false (in_force (declarations prefixes)) (Many0 (SpellsNoted false (in_force (declarations prefixes))) xs) (lexemes text (drop behind list)) → found ≡ Some (map addition xs)) → (ops : List Op) × (found ≡ Some ops) × IsDocument limit text ops
  document_found o found is =
      let b = opened_body limit text tokens prefixes behind Document o in
      (map addition b.0, is b.0 (on_list (Ontology false (in_force (declarations prefixes)) (Many0 (SpellsNoted false (in_force (declarations prefixes))) b.0)) b.1), document_is limit text tokens prefixes behind o (map addition b.0) b refl)

  pub edit_found : IsOpened Edit limit text tokens prefixes behind → (found : Option (List Op)) → ((ops : List Op) → Many0 (SpellsOp (in_force (declarations prefixes))) ops (lexemes text (drop behind list)) → found ≡ Some ops) → (ops : List Op) × (found ≡ Some ops) × IsEdit limit text ops
  edit_found o found is =
      let b = opened_body limit text tokens prefixes behind Edit o in
      (b.0, is b.0 (on_list (Many0 (SpellsOp (in_force (declarations prefixes))) b.0) b.1), edit_is limit text tokens prefixes behind o b.0 b refl)

  pub seed_found : IsOpened Seed limit text tokens prefixes behind → (found : Option (List Entity)) → ((entities : List Entity) → Many0 (SpellsEntity (in_force (declarations prefixes))) entities (lexemes text (drop behind list)) → found ≡ Some entities) → (entities : List Entity) × (found ≡ Some entities) × IsSeed limit text entities
  seed_found o found is =
      let b = opened_body limit text tokens prefixes behind Seed o in
      (b.0, is b.0 (on_list (Many0 (SpellsEntity (in_force (declarations prefixes))) b.0) b.1), seed_is limit text tokens prefixes behind o b.0 b refl)

  pub single_found : IsOpened Single limit text tokens prefixes behind → (found : Option Noted) → ((x : Noted) → SpellsNoted false (in_force (declarations prefixes)) x (lexemes text (drop behind list)) → found ≡ Some x) → (x : Noted) × (found ≡ Some x) × IsSingle limit text x
  single_found o found is =
      let b = opened_body limit text tokens prefixes behind Single o in
      (b.0, is b.0 (on_list (SpellsNoted false (in_force (declarations prefixes)) b.0) b.2), single_is limit text tokens prefixes behind o b.0 b refl)
