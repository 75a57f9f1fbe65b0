-- A text is refused for one cause at most.
use Rattle.std.proofs.Common.{◌≡◌, ◌≢◌, ℕ, suc, ◌+◌, ◌*◌, ◌<◌, ◌≤◌, ◌⊎◌, inl, inr, List, [], ◌∷◌, ◌++◌, length, drop, Option, None, Some, refl, sym, ◌∙◌, ap, subst, arith}
use Rattle.std.specs.Prelude.{codes}
use Rattle.std.specs.Str.{bytes_eq}
use Rattle.std.proofs.lemmas.Bool.{true≢false}
use Rattle.ad_lex.specs.Lexed.{IsLexed}
use Rattle.ad_lex.specs.Lexemes.{Lexeme, lexemes}
use Rattle.ad_lex.specs.Lexemes as says
use Rattle.ad_lex.specs.declared.token.Token.{Token}
use Rattle.ad_lex.specs.declared.token.LexFault.{LexFault}
use Rattle.ad_lex.proofs.Once.{lexed_once, lexed_or_fault, fault_once}
use Rattle.ad_lex.proofs.Pieces.{bytes_eq-refl}
use Rattle.ad_grammar.specs.Shapes.{Text}
use Rattle.ad_grammar.specs.Texts.{Declared, AreDistinct, iri_of, in_force}
use Rattle.ad_grammar.specs.Faults.{Form, IsFirstFault}
use Rattle.ad_grammar_laws.specs.Known.{IsKnown, AreKnown}
use Rattle.ad_check.specs.Stops.{IsAddition, IsAdditionAt, GoesOnBy}
use Rattle.ad_check.specs.declared.texts.Unsupported.{Unsupported}
use Rattle.ad_check.specs.declared.texts.Unsupported.TheVariants.{Import, Rule, Nary}
use Rattle.ad_check.proofs.Decided.{one_fault}
use Rattle.ad_read.specs.Prefixed.{IsDeclaredTwice, IsUnknown}
use Rattle.ad_read.specs.Texts.{depth, IsShallow, IsFormed, place}
use Rattle.ad_read.specs.Outcome.{StopsAt, Refuses}
use Rattle.ad_read.specs.Opened.{text_of}
use Rattle.ad_read.specs.Laws.{IsRefusedOnce}
use Rattle.ad_read.specs.declared.texts.ReadRefused.TheVariants as refused_by
use Rattle.ad_read.proofs.Declarations.{text_is, prefix_in, iri_in, declared_as, split_once, within, not_distinct, length_text}
use Rattle.ad_read.proofs.Opening.{none_not_some, some_same}
use Rattle.ad_read.proofs.Outcomes.{fault_not_of}

-- an addition of the wide grammar is told by its token
abbrev word_in : Lexeme → List ℕ
word_in (says.Plain word) = word
word_in t = []

abbrev first_in : Text → Lexeme
first_in [] = says.Left
first_in (t ∷ ts) = t

import_or_rule : (t : Lexeme) → t ≡ says.Plain (codes "Import") → t ≡ says.Plain (codes "DLSafeRule") → ⊥
import_or_rule t e e' = true≢false (sym (bytes_eq-refl (codes "DLSafeRule")) ∙ ap (λ us. bytes_eq us (codes "DLSafeRule")) (sym (ap word_in (sym e ∙ e'))))

addition_once : (what other : Unsupported) (t : Lexeme) → IsAddition what t → IsAddition other t → what ≡ other
addition_once Import Import t h h' = refl
addition_once Import Rule t h h' = absurd (import_or_rule t h h')
addition_once Import Nary t h h' = absurd (h'.0 h)
addition_once Rule Import t h h' = absurd (import_or_rule t h' h)
addition_once Rule Rule t h h' = refl
addition_once Rule Nary t h h' = absurd (h'.1 h)
addition_once Nary Import t h h' = absurd (h.0 h')
addition_once Nary Rule t h h' = absurd (h.1 h')
addition_once Nary Nary t h h' = refl

addition_at_once : (what other : Unsupported) (ts : Text) (at : ℕ) → IsAdditionAt what ts at → IsAdditionAt other ts at → what ≡ other
addition_at_once what other ts at (t, rest, e, h) (t', rest', e', h') = addition_once what other t h (subst (IsAddition other) (ap first_in (sym e' ∙ e)) h')

says_once : (form : Form) (ts : Text) (at : ℕ) (what other : Option Unsupported) → GoesOnBy form ts at what → GoesOnBy form ts at other → what ≡ other
says_once form ts at None None h h' = refl
says_once form ts at None (Some other) h h' = absurd (h h'.0)
says_once form ts at (Some what) None h h' = absurd (h' h.0)
says_once form ts at (Some what) (Some other) h h' = ap Some (addition_at_once what other ts at h.1 h'.1)

-- the first name whose prefix isn't known
module _ (words : List ℕ → Option (List ℕ)) where
  not_known : (prefix local : List ℕ) → words prefix ≡ None → IsKnown words (says.Short prefix local) → ⊥
  not_known prefix local e (iri, e') = none_not_some iri (sym e ∙ e')

  known_same : (l k : Lexeme) → l ≡ k → IsKnown words l → IsKnown words k
  known_same l k e h = subst (IsKnown words) e h

  first_unknown : (a b : Text) (p l q m : List ℕ) (c d : Text) → AreKnown words a → AreKnown words b → words p ≡ None → words q ≡ None → a ++ says.Short p l ∷ c ≡ b ++ says.Short q m ∷ d → length a ≡ length b
  first_unknown [] [] p l q m c d f g u v e = refl
  first_unknown [] (y ∷ b) p l q m c d f g u v e = absurd (not_known p l u (known_same y (says.Short p l) (ap first_in (sym e)) g.0))
  first_unknown (x ∷ a) [] p l q m c d f g u v e = absurd (not_known q m v (known_same x (says.Short q m) (ap first_in e) f.0))
  first_unknown (x ∷ a) (y ∷ b) p l q m c d f g u v e = ap suc (first_unknown a b p l q m c d f.1 g.1 u v (ap (drop 1) e))

unknown_once : (ts : Text) (at other : ℕ) → IsUnknown ts at → IsUnknown ts other → at ≡ other
unknown_once ts at other u v =
    let behind : Text = u.names ++ says.Short u.prefix u.local ∷ u.rest in
    let behind' : Text = v.names ++ says.Short v.prefix v.local ∷ v.rest in
    let d : u.front ≡ text_of u.declared = text_is u.declared u.front u.spelled in
    let d' : v.front ≡ text_of v.declared = text_is v.declared v.front v.spelled in
    let s = split_once u.declared v.declared behind behind' u.over v.over (ap (λ us. us ++ behind) (sym d) ∙ sym u.is ∙ v.is ∙ ap (λ us. us ++ behind') d') in
    let same : v.declared ≡ u.declared = sym s.0 in
    let n : length u.names ≡ length v.names = first_unknown (in_force u.declared) u.names v.names u.prefix u.local v.prefix v.local u.rest v.rest u.known (subst (λ ds. AreKnown (in_force ds) v.names) same v.known) u.unknown (subst (λ ds. in_force ds v.prefix ≡ None) same v.unknown) s.1 in
    u.place ∙ ap (λ k. k + length u.names) (ap length (d ∙ ap text_of s.0 ∙ sym d')) ∙ ap (λ k. length v.front + k) n ∙ sym v.place

-- of two declarations that stand behind others, one is among those in front of the other, or they are the same
abbrev Among : List Declared → List Declared → List ℕ → Type 0
Among ds es prefix = (own : Declared) × (after : List Declared) × (es ≡ ds ++ own ∷ after) × (own.prefix ≡ prefix)

abbrev begins_with : List ℕ → Text → Text
begins_with prefix rest = says.Plain (codes "Prefix") ∷ says.Left ∷ says.Short prefix [] ∷ rest

same_declared : (d e : Declared) → d.prefix ≡ e.prefix → d.iri ≡ e.iri → d ≡ e
same_declared d e p i = ap (λ q. declared_as q d.iri) p ∙ ap (λ q. declared_as e.prefix q) i

two_places : (ds es : List Declared) (p q : List ℕ) (a b : Text) → text_of ds ++ begins_with p a ≡ text_of es ++ begins_with q b → (length ds ≡ length es) ⊎ (Among ds es p ⊎ Among es ds q)
two_places [] [] p q a b e = inl refl
two_places [] (y ∷ es) p q a b e = inr (inl (y, es, refl, sym (ap prefix_in e)))
two_places (x ∷ ds) [] p q a b e = inr (inr (x, ds, refl, ap prefix_in e))
two_places (x ∷ ds) (y ∷ es) p q a b e = behind_both (two_places ds es p q a b (ap (drop 6) e))
  where
    same : x ≡ y
    same = same_declared x y (ap prefix_in e) (ap iri_in e)

    behind_both : (length ds ≡ length es) ⊎ (Among ds es p ⊎ Among es ds q) → (length (x ∷ ds) ≡ length (y ∷ es)) ⊎ (Among (x ∷ ds) (y ∷ es) p ⊎ Among (y ∷ es) (x ∷ ds) q)
    behind_both (inl n) = inl (ap suc n)
    behind_both (inr (inl (own, after, f, g))) = inr (inl (own, after, ap (λ us. y ∷ us) f ∙ ap (λ z. z ∷ (ds ++ own ∷ after)) (sym same), g))
    behind_both (inr (inr (own, after, f, g))) = inr (inr (own, after, ap (λ us. x ∷ us) f ∙ ap (λ z. z ∷ (es ++ own ∷ after)) same, g))

-- the first prefix that is declared twice
twice_once : (ts : Text) (at other : ℕ) → IsDeclaredTwice ts at → IsDeclaredTwice ts other → at ≡ other
twice_once ts at other t u =
    let d : t.front ≡ text_of t.before = text_is t.before t.front t.spelled in
    let d' : u.front ≡ text_of u.before = text_is u.before u.front u.spelled in
    t.place ∙ ap (λ k. k + 2) (ap length d ∙ length_text t.before ∙ ap (λ k. 6 * k) (by_place (two_places t.before u.before t.prefix u.prefix t.rest u.rest (ap (λ us. us ++ begins_with t.prefix t.rest) (sym d) ∙ sym t.is ∙ u.is ∙ ap (λ us. us ++ begins_with u.prefix u.rest) d'))) ∙ sym (length_text u.before) ∙ sym (ap length d')) ∙ sym u.place
  where
    not_again : (before later : List Declared) (prefix iri : List ℕ) → iri_of before prefix ≡ Some iri → AreDistinct later → Among before later prefix → ⊥
    not_again before later prefix iri again once (own, after, e, f) = not_distinct before own after iri (ap (iri_of before) f ∙ again) (subst AreDistinct e once)

    by_place : (length t.before ≡ length u.before) ⊎ (Among t.before u.before t.prefix ⊎ Among u.before t.before u.prefix) → length t.before ≡ length u.before
    by_place (inl n) = n
    by_place (inr (inl among)) = absurd (not_again t.before u.before t.prefix t.iri t.again u.once among)
    by_place (inr (inr among)) = absurd (not_again u.before t.before u.prefix u.iri u.again t.once among)

-- a text with a prefix that is declared twice has no unknown one
unknown_or_twice : (ts : Text) (at other : ℕ) → IsUnknown ts at → IsDeclaredTwice ts other → ⊥
unknown_or_twice ts at other u t =
    let behind : Text = u.names ++ says.Short u.prefix u.local ∷ u.rest in
    let d : u.front ≡ text_of u.declared = text_is u.declared u.front u.spelled in
    let d' : t.front ≡ text_of t.before = text_is t.before t.front t.spelled in
    let q = within u.declared t.before behind t.rest t.prefix u.over (ap (λ us. us ++ behind) (sym d) ∙ sym u.is ∙ t.is ∙ ap (λ us. us ++ begins_with t.prefix t.rest) d') in
    not_distinct t.before q.0 q.1 t.iri (ap (iri_of t.before) q.3 ∙ t.again) (subst AreDistinct q.2 u.once)

-- the causes, each against itself and those that come after it
module _ (form : Form) (limit : ℕ) (text : List ℕ) where
  lex_or_tokens : (fault : LexFault) (tokens : List Token) → Refuses form limit text (refused_by.Lex fault) → IsLexed text tokens → ⊥
  lex_or_tokens fault tokens f l = lexed_or_fault text tokens fault l f

  deep_once : (n m : ℕ) → Refuses form limit text (refused_by.Depth n) → Refuses form limit text (refused_by.Depth m) → n ≡ m
  deep_once n m (tokens, l, e, above) (tokens', l', e', above') = e ∙ ap (λ ts. depth form (lexemes text ts)) (lexed_once text tokens tokens' l l') ∙ sym e'

  deep_or_shallow : (n : ℕ) (tokens : List Token) → Refuses form limit text (refused_by.Depth n) → IsShallow form limit text tokens → ⊥
  deep_or_shallow n tokens (tokens', l, e, above) shallow = not_both n (depth form (lexemes text tokens)) (e ∙ ap (λ ts. depth form (lexemes text ts)) (lexed_once text tokens' tokens l shallow.lexed)) above shallow.within
    where
      not_both : (n m : ℕ) → n ≡ m → limit < n → m ≤ limit → ⊥
      not_both n m same above below = omega (arith, same, above, below)

  stop_once : (at other : ℕ) (what what' : Option Unsupported) → StopsAt form limit text at what → StopsAt form limit text other what' → (at ≡ other) × (what ≡ what')
  stop_once at other what what' (tokens, shallow, token, first, said, e) (tokens', shallow', token', first', said', e') =
      let same : tokens' ≡ tokens = lexed_once text tokens' tokens shallow'.lexed shallow.lexed in
      let here : IsFirstFault form (lexemes text tokens) token' = subst (λ ts. IsFirstFault form (lexemes text ts) token') same first' in
      let t : token' ≡ token = one_fault form (lexemes text tokens) token' token here first in
      let told : GoesOnBy form (lexemes text tokens) token what' = subst (λ k. GoesOnBy form (lexemes text tokens) k what') t (subst (λ ts. GoesOnBy form (lexemes text ts) token' what') same said') in
      (e ∙ sym (e' ∙ ap (λ ts. place text ts token') same ∙ ap (place text tokens) t), says_once form (lexemes text tokens) token what what' said told)

  stop_or_formed : (at : ℕ) (what : Option Unsupported) (tokens : List Token) → StopsAt form limit text at what → IsFormed form limit text tokens → ⊥
  stop_or_formed at what tokens (tokens', shallow, token, first, said, e) formed = fault_not_of form (lexemes text tokens) token (subst (λ ts. IsFirstFault form (lexemes text ts) token) (lexed_once text tokens' tokens shallow.lexed formed.shallow.lexed) first) formed.formed

  prefix_once : (at other : ℕ) → Refuses form limit text (refused_by.Prefix at) → Refuses form limit text (refused_by.Prefix other) → at ≡ other
  prefix_once at other (tokens, formed, token, u, e) (tokens', formed', token', u', e') =
      let same : tokens' ≡ tokens = lexed_once text tokens' tokens formed'.shallow.lexed formed.shallow.lexed in
      let t : token' ≡ token = unknown_once (lexemes text tokens) token' token (subst (λ ts. IsUnknown (lexemes text ts) token') same u') u in
      e ∙ sym (e' ∙ ap (λ ts. place text ts token') same ∙ ap (place text tokens) t)

  twice_at_once : (at other : ℕ) → Refuses form limit text (refused_by.PrefixTwice at) → Refuses form limit text (refused_by.PrefixTwice other) → at ≡ other
  twice_at_once at other (tokens, formed, token, t, e) (tokens', formed', token', t', e') =
      let same : tokens' ≡ tokens = lexed_once text tokens' tokens formed'.shallow.lexed formed.shallow.lexed in
      let k : token' ≡ token = twice_once (lexemes text tokens) token' token (subst (λ ts. IsDeclaredTwice (lexemes text ts) token') same t') t in
      e ∙ sym (e' ∙ ap (λ ts. place text ts token') same ∙ ap (place text tokens) k)

  prefix_or_twice : (at other : ℕ) → Refuses form limit text (refused_by.Prefix at) → Refuses form limit text (refused_by.PrefixTwice other) → ⊥
  prefix_or_twice at other (tokens, formed, token, u, e) (tokens', formed', token', t, e') =
      let same : tokens' ≡ tokens = lexed_once text tokens' tokens formed'.shallow.lexed formed.shallow.lexed in
      unknown_or_twice (lexemes text tokens) token token' u (subst (λ ts. IsDeclaredTwice (lexemes text ts) token') same t)

pub refused_once : IsRefusedOnce
refused_once form limit text (refused_by.Lex f) (refused_by.Lex g) x y h h' = ap refused_by.Lex (fault_once text f g h h')
refused_once form limit text (refused_by.Lex f) (refused_by.Depth m) x y h h' = absurd (lex_or_tokens form limit text f h'.0 h h'.1)
refused_once form limit text (refused_by.Lex f) (refused_by.Syntax at) x y h h' = absurd (lex_or_tokens form limit text f h'.0 h h'.1.lexed)
refused_once form limit text (refused_by.Lex f) (refused_by.Unsupported at what) x y h h' = absurd (lex_or_tokens form limit text f h'.0 h h'.1.lexed)
refused_once form limit text (refused_by.Lex f) (refused_by.Prefix at) x y h h' = absurd (lex_or_tokens form limit text f h'.0 h h'.1.shallow.lexed)
refused_once form limit text (refused_by.Lex f) (refused_by.PrefixTwice at) x y h h' = absurd (lex_or_tokens form limit text f h'.0 h h'.1.shallow.lexed)
refused_once form limit text (refused_by.Depth n) (refused_by.Lex g) x y h h' = absurd (lex_or_tokens form limit text g h.0 h' h.1)
refused_once form limit text (refused_by.Depth n) (refused_by.Depth m) x y h h' = ap refused_by.Depth (deep_once form limit text n m h h')
refused_once form limit text (refused_by.Depth n) (refused_by.Syntax at) x y h h' = absurd (deep_or_shallow form limit text n h'.0 h h'.1)
refused_once form limit text (refused_by.Depth n) (refused_by.Unsupported at what) x y h h' = absurd (deep_or_shallow form limit text n h'.0 h h'.1)
refused_once form limit text (refused_by.Depth n) (refused_by.Prefix at) x y h h' = absurd (deep_or_shallow form limit text n h'.0 h h'.1.shallow)
refused_once form limit text (refused_by.Depth n) (refused_by.PrefixTwice at) x y h h' = absurd (deep_or_shallow form limit text n h'.0 h h'.1.shallow)
refused_once form limit text (refused_by.Syntax at) (refused_by.Lex g) x y h h' = absurd (lex_or_tokens form limit text g h.0 h' h.1.lexed)
refused_once form limit text (refused_by.Syntax at) (refused_by.Depth m) x y h h' = absurd (deep_or_shallow form limit text m h.0 h' h.1)
refused_once form limit text (refused_by.Syntax at) (refused_by.Syntax other) x y h h' = ap refused_by.Syntax (stop_once form limit text at other None None h h').0
refused_once form limit text (refused_by.Syntax at) (refused_by.Unsupported other what) x y h h' = absurd (none_not_some what (stop_once form limit text at other None (Some what) h h').1)
refused_once form limit text (refused_by.Syntax at) (refused_by.Prefix other) x y h h' = absurd (stop_or_formed form limit text at None h'.0 h h'.1)
refused_once form limit text (refused_by.Syntax at) (refused_by.PrefixTwice other) x y h h' = absurd (stop_or_formed form limit text at None h'.0 h h'.1)
refused_once form limit text (refused_by.Unsupported at what) (refused_by.Lex g) x y h h' = absurd (lex_or_tokens form limit text g h.0 h' h.1.lexed)
refused_once form limit text (refused_by.Unsupported at what) (refused_by.Depth m) x y h h' = absurd (deep_or_shallow form limit text m h.0 h' h.1)
refused_once form limit text (refused_by.Unsupported at what) (refused_by.Syntax other) x y h h' = absurd (none_not_some what (stop_once form limit text other at None (Some what) h' h).1)
refused_once form limit text (refused_by.Unsupported at what) (refused_by.Unsupported other what') x y h h' =
    let s = stop_once form limit text at other (Some what) (Some what') h h' in
    ap (λ k. refused_by.Unsupported k what) s.0 ∙ ap (refused_by.Unsupported other) (some_same what what' s.1)
refused_once form limit text (refused_by.Unsupported at what) (refused_by.Prefix other) x y h h' = absurd (stop_or_formed form limit text at (Some what) h'.0 h h'.1)
refused_once form limit text (refused_by.Unsupported at what) (refused_by.PrefixTwice other) x y h h' = absurd (stop_or_formed form limit text at (Some what) h'.0 h h'.1)
refused_once form limit text (refused_by.Prefix at) (refused_by.Lex g) x y h h' = absurd (lex_or_tokens form limit text g h.0 h' h.1.shallow.lexed)
refused_once form limit text (refused_by.Prefix at) (refused_by.Depth m) x y h h' = absurd (deep_or_shallow form limit text m h.0 h' h.1.shallow)
refused_once form limit text (refused_by.Prefix at) (refused_by.Syntax other) x y h h' = absurd (stop_or_formed form limit text other None h.0 h' h.1)
refused_once form limit text (refused_by.Prefix at) (refused_by.Unsupported other what) x y h h' = absurd (stop_or_formed form limit text other (Some what) h.0 h' h.1)
refused_once form limit text (refused_by.Prefix at) (refused_by.Prefix other) x y h h' = ap refused_by.Prefix (prefix_once form limit text at other h h')
refused_once form limit text (refused_by.Prefix at) (refused_by.PrefixTwice other) x y h h' = absurd (prefix_or_twice form limit text at other h h')
refused_once form limit text (refused_by.PrefixTwice at) (refused_by.Lex g) x y h h' = absurd (lex_or_tokens form limit text g h.0 h' h.1.shallow.lexed)
refused_once form limit text (refused_by.PrefixTwice at) (refused_by.Depth m) x y h h' = absurd (deep_or_shallow form limit text m h.0 h' h.1.shallow)
refused_once form limit text (refused_by.PrefixTwice at) (refused_by.Syntax other) x y h h' = absurd (stop_or_formed form limit text other None h.0 h' h.1)
refused_once form limit text (refused_by.PrefixTwice at) (refused_by.Unsupported other what) x y h h' = absurd (stop_or_formed form limit text other (Some what) h.0 h' h.1)
refused_once form limit text (refused_by.PrefixTwice at) (refused_by.Prefix other) x y h h' = absurd (prefix_or_twice form limit text other at h' h)
refused_once form limit text (refused_by.PrefixTwice at) (refused_by.PrefixTwice other) x y h h' = ap refused_by.PrefixTwice (twice_at_once form limit text at other h h')
refused_once form limit text refused_by.Memory b x y h h' = absurd (x refl)
refused_once form limit text a refused_by.Memory x y h h' = absurd (y refl)
