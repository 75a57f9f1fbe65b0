-- The tokens of a phrase whose prefixes are known spell a tree.
use Rattle.std.proofs.Common.{◌≡◌, ℕ, ◌+◌, ◌-◌, ◌≤◌, Bool, true, false, List, [], ◌∷◌, take, drop, find, Option, None, Some, is_some, refl, sym, ◌∙◌, ap, subst, arith}
use Rattle.std.specs.Prelude.{is_none}
use Rattle.std.specs.Option.{option_map}
use Rattle.std.proofs.lemmas.Bool.{true≢false}
use Rattle.std.proofs.lemmas.List.{drop-take, take-map, drop-map}
use Rattle.ad_lex.specs.Lexemes.{Lexeme, lexeme, lexemes}
use Rattle.ad_lex.specs.Lexemes as says
use Rattle.ad_lex.specs.declared.token.Token.{Token}
use Rattle.ad_grammar.specs.Shapes.{Text}
use Rattle.ad_grammar.specs.Names.{Words}
use Rattle.ad_grammar.specs.Faults.{Form, IsLongest}
use Rattle.ad_grammar_laws.specs.Known.{IsKnown, AreKnown}
use Rattle.ad_prefixes.specs.Unknown.{is_unknown}
use Rattle.ad_phrases.specs.Readings.{Reading}
use Rattle.ad_phrases.specs.Phrases.{IsBuilt, IsFirstUnknown, RefusesPhrase, RefusesIn}
use Rattle.ad_phrases.specs.declared.phrases.BuildRefused.{BuildRefused}
use Rattle.ad_phrases.specs.declared.phrases.BuildRefused.TheVariants as refused_by

pub none_not_some : {X : Type 0} (x : X) → None ≡ Some x → ⊥
none_not_some x h = absurd (true≢false (sym (ap is_some h)))

pub some_same : {X : Type 0} (x y : X) → Some x ≡ Some y → x ≡ y
some_same {X} x y e = ap from e
  where
    from : Option X → X
    from None = x
    from (Some z) = z

-- prefixes that are known, and one that isn't
some_is : (o : Option (List ℕ)) → is_none o ≡ false → (x : List ℕ) × (o ≡ Some x)
some_is None h = absurd (true≢false h)
some_is (Some x) h = (x, refl)

none_is : (o : Option (List ℕ)) → is_none o ≡ true → (x : List ℕ) → o ≡ Some x → ⊥
none_is None h x e = none_not_some x e
none_is (Some y) h x e = true≢false (sym h)

known_if : (words : Words) (l : Lexeme) → is_unknown words l ≡ false → IsKnown words l
known_if words (says.Short prefix local) h = some_is (words prefix) h
known_if words l h = tt

unknown_if : (words : Words) (l : Lexeme) → is_unknown words l ≡ true → IsKnown words l → ⊥
unknown_if words (says.Short prefix local) h (iri, e) = none_is (words prefix) h iri e
unknown_if words l h k = true≢false (sym h)

module _ (words : Words) (text : List ℕ) where
  pub first_found : (ts : List Token) (token : Token) → find (λ t. is_unknown words (lexeme text t)) ts ≡ Some token → IsFirstUnknown words text ts token
  first_found [] token h = absurd (none_not_some token h)
  first_found (t ∷ ts) token h = by_test (is_unknown words (lexeme text t)) refl (first_found ts token)
    where
      by_test : (b : Bool) → is_unknown words (lexeme text t) ≡ b → (find (λ u. is_unknown words (lexeme text u)) ts ≡ Some token → IsFirstUnknown words text ts token) → IsFirstUnknown words text (t ∷ ts) token
      by_test true e later =
          let same : t ≡ token = some_same t token (sym (rw e refl) ∙ h) in
          record { before = []; behind = ts; is = ap (λ u. u ∷ ts) same; known = tt; unknown = unknown_if words (lexeme text token) (ap (λ u. is_unknown words (lexeme text u)) (sym same) ∙ e) }
      by_test false e later =
          let f = later (sym (rw e refl) ∙ h) in
          record { before = t ∷ f.before; behind = f.behind; is = ap (λ us. t ∷ us) f.is; known = (known_if words (lexeme text t) e, f.known); unknown = f.unknown }

  pub none_found : (ts : List Token) → find (λ t. is_unknown words (lexeme text t)) ts ≡ None → AreKnown words (lexemes text ts)
  none_found [] h = tt
  none_found (t ∷ ts) h = by_test (is_unknown words (lexeme text t)) refl (none_found ts)
    where
      by_test : (b : Bool) → is_unknown words (lexeme text t) ≡ b → (find (λ u. is_unknown words (lexeme text u)) ts ≡ None → AreKnown words (lexemes text ts)) → AreKnown words (lexemes text (t ∷ ts))
      by_test true e later = absurd (none_not_some t (sym h ∙ rw e refl))
      by_test false e later = (known_if words (lexeme text t) e, later (sym (rw e refl) ∙ h))

  -- the same of the place of what is found
  pub all_known : (ts : List Token) (found : Option ℕ) → found ≡ option_map (λ t. t.from) (find (λ t. is_unknown words (lexeme text t)) ts) → found ≡ None → AreKnown words (lexemes text ts)
  all_known ts found e none = by_find (find (λ t. is_unknown words (lexeme text t)) ts) refl (sym e ∙ none)
    where
      by_find : (o : Option Token) → find (λ t. is_unknown words (lexeme text t)) ts ≡ o → option_map (λ (t : Token). t.from) o ≡ None → AreKnown words (lexemes text ts)
      by_find None is h = none_found ts is
      by_find (Some t) is h = absurd (none_not_some t.from (sym h))

  pub one_unknown : (ts : List Token) (found : Option ℕ) (at : ℕ) → found ≡ option_map (λ t. t.from) (find (λ t. is_unknown words (lexeme text t)) ts) → found ≡ Some at → RefusesIn words text ts (refused_by.Prefix at)
  one_unknown ts found at e some = by_find (find (λ t. is_unknown words (lexeme text t)) ts) refl (sym e ∙ some)
    where
      by_find : (o : Option Token) → find (λ t. is_unknown words (lexeme text t)) ts ≡ o → option_map (λ (t : Token). t.from) o ≡ Some at → RefusesIn words text ts (refused_by.Prefix at)
      by_find None is h = absurd (none_not_some at h)
      by_find (Some t) is h = (t, first_found ts t is, some_same at t.from (sym h))

-- what a front of the tokens from one on says
pub front_says : (text : List ℕ) (tokens : List Token) (from n : ℕ) → lexemes text (take n (drop from tokens)) ≡ take n (drop from (lexemes text tokens))
front_says text tokens from n = sym (take-map (lexeme text) n (drop from tokens)) ∙ ap (take n) (sym (drop-map (lexeme text) from tokens))

-- the phrase that begins at one token and ends before another
module _ (text : List ℕ) (tokens : List Token) (from to : ℕ) (order : from ≤ to) where
  phrase_is : drop from (take to tokens) ≡ take (to - from) (drop from tokens)
  phrase_is =
      let whole : to ≡ from + (to - from) = omega (arith, order) in
      ap (λ n. drop from (take n tokens)) whole ∙ drop-take from (to - from) tokens

  phrase_says : lexemes text (drop from (take to tokens)) ≡ take (to - from) (drop from (lexemes text tokens))
  phrase_says = ap (lexemes text) phrase_is ∙ front_says text tokens from (to - from)

  module _ {form : Form} (words : Words) (longest : IsLongest form (drop from (lexemes text tokens)) (to - from)) (list : List Token) (e : list ≡ tokens) where
    -- the tree that its tokens spell
    pub tree_found : {X : Type 0} {spells : Words → X → Text → Type 0} (r : Reading form X spells) → AreKnown words (lexemes text (drop from (take to list))) → (found : Option X) → ((x : X) → spells words x (lexemes text (drop from (take to list))) → found ≡ Some x) → (x : X) × (found ≡ Some x) × IsBuilt form (spells words) (lexemes text tokens) from x to
    tree_found {X} {spells} r known found is =
        let ts : Text = take (to - from) (drop from (lexemes text tokens)) in
        let says_so : lexemes text (drop from (take to list)) ≡ ts = ap (λ us. lexemes text (drop from (take to us))) e ∙ phrase_says in
        let own = r.spelled ts longest.phrase in
        let moved = (r.moves own.0 words own.1 ts own.2).1 (subst (AreKnown words) says_so known) in
        (moved.0, is moved.0 (subst (spells words moved.0) (sym says_so) moved.1), record { after = order; longest = longest; spelled = moved.1 })

    -- the name that keeps it from being built
    pub name_found : (refused : BuildRefused) → RefusesIn words text (drop from (take to list)) refused → RefusesPhrase form words text tokens from refused
    name_found (refused_by.Prefix at) (token, first, place) =
        (token, record { size = to - from; longest = longest; first = subst (λ us. IsFirstUnknown words text us token) (ap (λ us. drop from (take to us)) e ∙ phrase_is) first }, place)
    name_found refused_by.Memory h = absurd h
