-- What the tokens of a text say can be written: no other name, value, label or tag comes of a text.
use Rattle.std.proofs.Common.{◌≡◌, ℕ, true, List, [], ◌∷◌, ◌++◌, length, get_or, drop, ◌+◌, Option, None, Some, IsUtf8, refl, sym, ◌∙◌, ap, subst, length-append, arith}
use Rattle.std.specs.List.{AllPass, AllByRecursion}
use Rattle.std.proofs.lemmas.List.{drop_at, drop-drop, get_or_at}
use Rattle.std.proofs.lemmas.List.Elements.{All-tail, All-weaker, All-from_recursion, recursion_from_All}
use Rattle.std.proofs.lemmas.Str.{IsUtf8-append, IsUtf8-drop, IsCharBoundary-after_ascii}
use Rattle.ad_lex.specs.declared.kind.CharKind.{CharKind}
use Rattle.ad_lex.specs.declared.kind.CharKind.TheVariants.{Blank, Hash, Left, Right, Equals, Caret, Less, Greater, Quote, At, Plus, Minus, Other}
use Rattle.ad_lex.specs.declared.token.Mark.{Mark}
use Rattle.ad_lex.specs.declared.token.Mark.TheVariants as mark
use Rattle.ad_lex.specs.declared.token.Token.{Token}
use Rattle.ad_lex.specs.Characters.{kind_of, is_word, is_word_kind, is_iri, is_iri_kind}
use Rattle.ad_lex.specs.Lexed.{IsLexed}
use Rattle.ad_lex.specs.Lexemes.{Lexeme, lexeme, lexeme_of, lexemes}
use Rattle.ad_lex.specs.Lexemes as says
use Rattle.ad_lex.specs.Shapes.{HasShape, inner, prefix_of, local_of}
use Rattle.ad_lex.specs.Spans.{IsTokenOf, span}
use Rattle.ad_lex.proofs.Meanings.{iri_utf8, text_utf8, tag_utf8, label_utf8, value_utf8}
use Rattle.ad_lex.proofs.Readings.{tokens_stand}
use Rattle.ad_grammar.specs.Shapes.{Text}
use Rattle.ad_grammar.specs.Names.{Words, followed_by, IsName}
use Rattle.ad_canonical.specs.Spellable.{SpellableIri, SpellableWord}

-- what a token of a text says
abbrev pub IsSound : Lexeme → Type 0
IsSound (says.Iri name) = SpellableIri name
IsSound (says.Text value) = IsUtf8 value
IsSound (says.Short prefix local) = SpellableIri local
IsSound (says.Node label) = AllPass is_word label × IsUtf8 label
IsSound (says.Lang tag) = SpellableWord tag
IsSound _ = Unit {0}

abbrev pub AreSound : Text → Type 0
AreSound ts = AllByRecursion IsSound ts

-- a word character may stand in an IRI
kind_may : (k : CharKind) → is_word_kind k ≡ true → is_iri_kind k ≡ true
kind_may Blank h = cc
kind_may Hash h = refl
kind_may Left h = refl
kind_may Right h = refl
kind_may Equals h = refl
kind_may Caret h = refl
kind_may Less h = cc
kind_may Greater h = cc
kind_may Quote h = cc
kind_may At h = refl
kind_may Plus h = refl
kind_may Minus h = refl
kind_may Other h = refl

may : (c : ℕ) → is_word c ≡ true → is_iri c ≡ true
may c h = kind_may (kind_of c) h

behind_all : (xs ys : List ℕ) → AllPass is_word (xs ++ ys) → AllPass is_word ys
behind_all [] ys h = h
behind_all (x ∷ xs) ys h = behind_all xs ys (All-tail (λ c. is_word c ≡ true) x (xs ++ ys) h)

-- the local part of a word
local_sound : (bytes prefix local : List ℕ) → bytes ≡ prefix ++ 58 ∷ local → AllPass is_word bytes → IsUtf8 bytes → SpellableIri local
local_sound bytes prefix local e all utf8 =
    let whole : AllPass is_word (prefix ++ 58 ∷ local) = subst (AllPass is_word) e all in
    let text : IsUtf8 (prefix ++ 58 ∷ local) = subst IsUtf8 e utf8 in
    let colon : get_or (prefix ++ 58 ∷ local) (length prefix) 0 ≡ 58 = get_or_at prefix 58 local 0 (length prefix) refl in
    let at : drop (length prefix + 1) (prefix ++ 58 ∷ local) ≡ local = sym (drop-drop 1 (length prefix) (prefix ++ 58 ∷ local)) ∙ ap (drop 1) (drop_at prefix (58 ∷ local) (length prefix) refl) in
    record {
      each = All-weaker (λ c. is_word c ≡ true) (λ c. is_iri c ≡ true) may local (All-tail (λ c. is_word c ≡ true) 58 local (behind_all prefix (58 ∷ local) whole));
      utf8 = subst IsUtf8 at (IsUtf8-drop (prefix ++ 58 ∷ local) (length prefix + 1) text
          (IsCharBoundary-after_ascii (prefix ++ 58 ∷ local) (length prefix) text (omega (arith, length-append prefix (58 ∷ local))) (omega (arith, colon))));
    }

bytes_sound : (m : Mark) (bytes : List ℕ) → HasShape m bytes → IsUtf8 bytes → IsSound (lexeme_of m bytes)
bytes_sound mark.Left bytes shape utf8 = tt
bytes_sound mark.Right bytes shape utf8 = tt
bytes_sound mark.Equals bytes shape utf8 = tt
bytes_sound mark.Carets bytes shape utf8 = tt
bytes_sound mark.Plus bytes shape utf8 = tt
bytes_sound mark.Minus bytes shape utf8 = tt
bytes_sound mark.Iri bytes shape utf8 = record { each = shape.each; utf8 = iri_utf8 mark.Iri bytes refl shape utf8 }
bytes_sound mark.Text bytes shape utf8 = value_utf8 (inner bytes) (text_utf8 mark.Text bytes refl shape utf8)
bytes_sound mark.Plain bytes shape utf8 = tt
bytes_sound mark.Short bytes shape utf8 = local_sound bytes (prefix_of bytes) (local_of bytes) shape.spelled shape.is_word.each utf8
bytes_sound mark.Node bytes shape utf8 = (behind_all (95 ∷ 58 ∷ []) (drop 2 bytes) (subst (AllPass is_word) shape.spelled shape.is_word.each), label_utf8 mark.Node bytes refl shape utf8)
bytes_sound mark.Lang bytes shape utf8 = record { some = shape.some; each = shape.each; utf8 = tag_utf8 mark.Lang bytes refl shape utf8 }

each_sound : (text : List ℕ) (ts : List Token) → AllByRecursion (IsTokenOf text) ts → AreSound (lexemes text ts)
each_sound text [] h = tt
each_sound text (t ∷ ts) h = (bytes_sound t.mark (span text t) h.0.shape h.0.utf8, each_sound text ts h.1)

pub tokens_sound : (text : List ℕ) (ts : List Token) → IsLexed text ts → AreSound (lexemes text ts)
tokens_sound text ts h = each_sound text ts (recursion_from_All (IsTokenOf text) ts (tokens_stand text ts h))

-- prefixes that stand for IRIs
abbrev pub AreSoundWords : Words → Type 0
AreSoundWords words = (prefix iri : List ℕ) → words prefix ≡ Some iri → SpellableIri iri

iri_and : (iri local : List ℕ) → SpellableIri iri → SpellableIri local → SpellableIri (iri ++ local)
iri_and iri local h g = record {
  each = All-from_recursion (λ c. is_iri c ≡ true) (iri ++ local) (both iri (recursion_from_All (λ c. is_iri c ≡ true) iri h.each) (recursion_from_All (λ c. is_iri c ≡ true) local g.each));
  utf8 = IsUtf8-append iri local h.utf8 g.utf8;
}
  where
    both : (xs : List ℕ) → AllByRecursion (λ c. is_iri c ≡ true) xs → AllByRecursion (λ c. is_iri c ≡ true) local → AllByRecursion (λ c. is_iri c ≡ true) (xs ++ local)
    both [] h g = g
    both (x ∷ xs) h g = (h.0, both xs h.1 g)

followed : (o : Option (List ℕ)) (local name : List ℕ) → ((iri : List ℕ) → o ≡ Some iri → SpellableIri iri) → SpellableIri local → followed_by local o ≡ Some name → SpellableIri name
followed None local name h g e = cc
followed (Some iri) local name h g e =
    let same : iri ++ local ≡ name = cc in
    subst SpellableIri same (iri_and iri local (h iri refl) g)

pub name_sound : (words : Words) → AreSoundWords words → (name : List ℕ) (ts : Text) → AreSound ts → IsName words name ts → SpellableIri name
name_sound words w name ts s (says.Iri full, e, n) =
    let same : full ≡ name = cc in
    let here : AreSound (says.Iri full ∷ []) = subst AreSound e s in
    subst SpellableIri same here.0
name_sound words w name ts s (says.Short prefix local, e, n) =
    let here : AreSound (says.Short prefix local ∷ []) = subst AreSound e s in
    followed (words prefix) local name (w prefix) here.0 n
name_sound words w name ts s (l, e, n) = cc
