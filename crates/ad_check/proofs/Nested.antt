-- The nesting, token by token from the last one.
use Rattle.std.proofs.Common.{◌≡◌, ◌≢◌, ℕ, suc, ◌+◌, ◌-◌, ◌<◌, ◌≤◌, List, ◌∷◌, length, get_or, drop, refl, sym, ◌∙◌, ap, subst, arith, add-one, drop-cons}
use Rattle.std.proofs.lemmas.List.{length-map, get_or-map}
use Rattle.ad_lex.specs.Lexemes.{lexeme, lexeme_of, lexemes}
use Rattle.ad_lex.specs.Spans.{span}
use Rattle.ad_lex.specs.declared.token.Token.{Token}
use Rattle.ad_lex.specs.declared.token.Mark.{Mark}
use Rattle.ad_lex.specs.declared.token.Mark.TheVariants as mark
use Rattle.ad_grammar.specs.Shapes.{Text}
use Rattle.ad_grammar.specs.Nesting.{nesting}

first_token : (text : List ℕ) (tokens : List Token) (at : ℕ) (d : Token) → 0 < at → at ≤ length tokens → drop (at - 1) (lexemes text tokens) ≡ lexeme text (get_or tokens (at - 1) d) ∷ drop at (lexemes text tokens)
first_token text tokens at d some within =
    let below : at - 1 < length tokens = omega (arith, some, within) in
    let inside : at - 1 < length (lexemes text tokens) = subst (λ n. at - 1 < n) (sym (length-map tokens (lexeme text))) below in
    drop-cons (lexemes text tokens) (at - 1) (lexeme text d) inside ∙ ap (λ t. t ∷ drop (suc (at - 1)) (lexemes text tokens)) (get_or-map (lexeme text) tokens (at - 1) d (lexeme text d) below) ∙ ap (λ i. lexeme text (get_or tokens (at - 1) d) ∷ drop i (lexemes text tokens)) (one_more at some)
  where
    one_more : (n : ℕ) → 0 < n → suc (n - 1) ≡ n
    one_more n h = omega (arith, h)

under_left : (m : Mark) (bytes : List ℕ) (rest : Text) → m ≡ mark.Left → nesting (lexeme_of m bytes ∷ rest) ≡ nesting rest + 1
under_left m bytes rest e = ap (λ n. nesting (lexeme_of n bytes ∷ rest)) e

under_right : (m : Mark) (bytes : List ℕ) (rest : Text) → m ≡ mark.Right → nesting (lexeme_of m bytes ∷ rest) ≡ nesting rest - 1
under_right m bytes rest e = ap (λ n. nesting (lexeme_of n bytes ∷ rest)) e

under_other : (m : Mark) (bytes : List ℕ) (rest : Text) → m ≢ mark.Left → m ≢ mark.Right → nesting (lexeme_of m bytes ∷ rest) ≡ nesting rest
under_other mark.Left bytes rest left right = absurd (left refl)
under_other mark.Right bytes rest left right = absurd (right refl)
under_other mark.Equals bytes rest left right = refl
under_other mark.Carets bytes rest left right = refl
under_other mark.Plus bytes rest left right = refl
under_other mark.Minus bytes rest left right = refl
under_other mark.Iri bytes rest left right = refl
under_other mark.Text bytes rest left right = refl
under_other mark.Plain bytes rest left right = refl
under_other mark.Short bytes rest left right = refl
under_other mark.Node bytes rest left right = refl
under_other mark.Lang bytes rest left right = refl

pub left_counts : (text : List ℕ) (tokens : List Token) (at depth : ℕ) (d : Token) → 0 < at → at ≤ length tokens → (get_or tokens (at - 1) d).mark ≡ mark.Left → depth ≡ nesting (drop at (lexemes text tokens)) → depth + 1 ≡ nesting (drop (at - 1) (lexemes text tokens))
left_counts text tokens at depth d some within is h = ap (λ n. n + 1) h ∙ sym (ap nesting (first_token text tokens at d some within) ∙ under_left (get_or tokens (at - 1) d).mark (span text (get_or tokens (at - 1) d)) (drop at (lexemes text tokens)) is)

pub right_counts : (text : List ℕ) (tokens : List Token) (at depth : ℕ) (d : Token) → 0 < at → at ≤ length tokens → (get_or tokens (at - 1) d).mark ≡ mark.Right → depth ≡ nesting (drop at (lexemes text tokens)) → depth - 1 ≡ nesting (drop (at - 1) (lexemes text tokens))
right_counts text tokens at depth d some within is h = ap (λ n. n - 1) h ∙ sym (ap nesting (first_token text tokens at d some within) ∙ under_right (get_or tokens (at - 1) d).mark (span text (get_or tokens (at - 1) d)) (drop at (lexemes text tokens)) is)

pub other_counts : (text : List ℕ) (tokens : List Token) (at depth : ℕ) (d : Token) → 0 < at → at ≤ length tokens → (get_or tokens (at - 1) d).mark ≢ mark.Left → (get_or tokens (at - 1) d).mark ≢ mark.Right → depth ≡ nesting (drop at (lexemes text tokens)) → depth ≡ nesting (drop (at - 1) (lexemes text tokens))
other_counts text tokens at depth d some within left right h = h ∙ sym (ap nesting (first_token text tokens at d some within) ∙ under_other (get_or tokens (at - 1) d).mark (span text (get_or tokens (at - 1) d)) (drop at (lexemes text tokens)) left right)
