-- What the tokens of a text say is what the text says; what is written of names and values is read back.
use Rattle.std.proofs.Common.{◌≡◌, ℕ, ◌+◌, ◌-◌, Bool, true, false, cond, ◌==◌, List, [], ◌∷◌, ◌++◌, length, take, drop, refl, sym, ◌∙◌, ap, subst, arith, append_assoc, length-append}
use Rattle.std.specs.Prelude.{Some}
use Rattle.std.specs.List.{AllPass}
use Rattle.std.specs.Str.{IsUtf8}
use Rattle.std.proofs.lemmas.Bool.{cond-true, cond-false, or_parts}
use Rattle.std.proofs.lemmas.List.{drop-drop}
use Rattle.ad_lex.specs.declared.token.Mark.TheVariants as mark
use Rattle.ad_lex.specs.declared.token.Token.{Token}
use Rattle.ad_lex.specs.Characters.{is_iri}
use Rattle.ad_lex.specs.Fronts.{string_len, more}
use Rattle.ad_lex.specs.Lexed.{token_at, Lexes, over, skips, takes, IsLexed, start}
use Rattle.ad_lex.specs.Lexemes.{Lexeme, Iri, Text, lexeme_of, lexemes, is_escapable, value_from, string_value}
use Rattle.ad_lex.specs.Shapes.{inner}
use Rattle.ad_lex.specs.Says.{Says, says_over, says_skips, says_takes, escaped}
use Rattle.ad_lex.proofs.Pieces.{iri_shape, text_shape, inner_between}
use Rattle.ad_lex.proofs.Writing.{token_says}

-- the token that stands at a place says its bytes
token_bytes : (text rest : List ℕ) (at n : ℕ) → rest ≡ drop at text → take n rest ≡ take (at + n - at) (drop at text)
token_bytes text rest at n is = let count : n ≡ at + n - at = omega arith in ap (take n) is ∙ ap (λ k. take k (drop at text)) count

says_from : (text : List ℕ) {at : ℕ} {rest : List ℕ} {ts : List Token} → Lexes at rest ts → rest ≡ drop at text → Says rest (lexemes text ts)
says_from text (over at rest e) is = says_over rest e
says_from text (skips at n rest ts e r) is = says_skips n rest (lexemes text ts) e (says_from text r (ap (drop n) is ∙ drop-drop n at text))
says_from text (takes at n m rest ts e r) is =
    subst (λ xs. Says rest (lexeme_of m xs ∷ lexemes text ts)) (token_bytes text rest at n is)
    (says_takes n m rest (lexemes text ts) e (says_from text r (ap (drop n) is ∙ drop-drop n at text)))

pub tokens_say : (text : List ℕ) (ts : List Token) → IsLexed text ts → Says (drop (start text) text) (lexemes text ts)
tokens_say text ts h = says_from text h.1 refl

lexed_from : (text : List ℕ) {rest : List ℕ} {ls : List Lexeme} → Says rest ls → (at : ℕ) → rest ≡ drop at text → (ts : List Token) × Lexes at rest ts × (lexemes text ts ≡ ls)
lexed_from text (says_over rest e) at is = ([], over at rest e, refl)
lexed_from text (says_skips n rest ls e r) at is =
    let known = lexed_from text r (at + n) (ap (drop n) is ∙ drop-drop n at text) in
    (known.0, skips at n rest known.0 e known.1, known.2)
lexed_from text (says_takes n m rest ls e r) at is =
    let known = lexed_from text r (at + n) (ap (drop n) is ∙ drop-drop n at text) in
    let bytes = token_bytes text rest at n is in
    let others = known.2 in
    (token_at at n m ∷ known.0, takes at n m rest known.0 e known.1, λ i. lexeme_of m (sym bytes i) ∷ others i)

pub says_lexed : (text : List ℕ) (ls : List Lexeme) → IsUtf8 text → Says (drop (start text) text) ls → (ts : List Token) × IsLexed text ts × (lexemes text ts ≡ ls)
says_lexed text ls utf8 h =
    let known = lexed_from text h (start text) refl in
    (known.0, (utf8, known.1), known.2)

-- a written value ends where its quote stands
escaped_one : (b : Bool) (c : ℕ) (xs : List ℕ) (n : ℕ) → is_escapable c ≡ b → string_len false xs ≡ Some n → string_len false (cond b (92 ∷ c ∷ []) (c ∷ []) ++ xs) ≡ Some (n + length (cond b (92 ∷ c ∷ []) (c ∷ [])))
escaped_one true c xs n is known = ap (λ o. more (more o)) known ∙ ap (λ k. Some k) (omega arith)
escaped_one false c xs n is known =
    let parts = or_parts (c == 34) (c == 92) is in
    cond-false (c == 34) (Some 0) (more (string_len (c == 92) xs)) parts.0 ∙ ap (λ b. more (string_len b xs)) parts.1 ∙ ap more known

pub escaped_len : (value rest : List ℕ) → string_len false (escaped value ++ 34 ∷ rest) ≡ Some (length (escaped value))
escaped_len [] rest = refl
escaped_len (c ∷ value) rest =
    let one : List ℕ = cond (is_escapable c) (92 ∷ c ∷ []) (c ∷ []) in
    ap (string_len false) (append_assoc one (escaped value) (34 ∷ rest))
    ∙ escaped_one (is_escapable c) c (escaped value ++ 34 ∷ rest) (length (escaped value)) refl (escaped_len value rest)
    ∙ ap (λ k. Some k) (omega (arith, length-append one (escaped value)))

-- and is read back
value_one : (b : Bool) (c : ℕ) (xs : List ℕ) → is_escapable c ≡ b → value_from false (cond b (92 ∷ c ∷ []) (c ∷ []) ++ xs) ≡ c ∷ value_from false xs
value_one true c xs is = ap (λ ys. ys ++ value_from false xs) (cond-true (is_escapable c) (c ∷ []) (92 ∷ c ∷ []) is)
value_one false c xs is =
    let parts = or_parts (c == 34) (c == 92) is in
    ap (λ b. cond b [] (c ∷ []) ++ value_from b xs) parts.1

pub value_escaped : (value : List ℕ) → string_value (escaped value) ≡ value
value_escaped [] = refl
value_escaped (c ∷ value) = value_one (is_escapable c) c (escaped value) refl ∙ ap (λ xs. c ∷ xs) (value_escaped value)

pub string_says : (value rest : List ℕ) (ls : List Lexeme) → Says rest ls → Says (34 ∷ (escaped value ++ 34 ∷ rest)) (Text value ∷ ls)
string_says value rest ls known =
    let inside : List ℕ = escaped value in
    let bytes : List ℕ = 34 ∷ (inside ++ 34 ∷ []) in
    let read : string_value (inner bytes) ≡ value = ap string_value (inner_between 34 34 inside) ∙ value_escaped value in
    let token = token_says mark.Text bytes rest ls (text_shape bytes inside refl (escaped_len value [])) tt known in
    subst (λ xs. Says (34 ∷ xs) (Text value ∷ ls)) (append_assoc inside (34 ∷ []) rest) (subst (λ v. Says (bytes ++ rest) (Text v ∷ ls)) read token)

pub iri_says : (name rest : List ℕ) (ls : List Lexeme) → AllPass is_iri name → Says rest ls → Says (60 ∷ (name ++ 62 ∷ rest)) (Iri name ∷ ls)
iri_says name rest ls all known =
    let bytes : List ℕ = 60 ∷ (name ++ 62 ∷ []) in
    let token = token_says mark.Iri bytes rest ls (iri_shape bytes name refl all) tt known in
    subst (λ xs. Says (60 ∷ xs) (Iri name ∷ ls)) (append_assoc name (62 ∷ []) rest) (subst (λ v. Says (bytes ++ rest) (Iri v ∷ ls)) (inner_between 60 62 name) token)
