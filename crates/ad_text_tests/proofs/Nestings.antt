-- A text nests no deeper than it has tokens.
use Rattle.std.proofs.Common.{ℕ, ◌≤◌, List, [], ◌∷◌, length, drop, arith}
use Rattle.std.proofs.lemmas.List.{length-drop, length-map}
use Rattle.ad_lex.specs.Lexemes.{lexeme, lexemes}
use Rattle.ad_lex.specs.Lexemes as says
use Rattle.ad_lex.specs.declared.token.Token.{Token}
use Rattle.ad_grammar.specs.Shapes.{Text}
use Rattle.ad_grammar.specs.Nesting.{nesting}

nesting_within : (ts : Text) → nesting ts ≤ length ts
nesting_within [] = omega arith
nesting_within (says.Left ∷ ts) = omega (arith, nesting_within ts)
nesting_within (says.Right ∷ ts) = omega (arith, nesting_within ts)
nesting_within (t ∷ ts) = omega (arith, nesting_within ts)

pub nesting_of_rest : (text : List ℕ) (tokens : List Token) (from : ℕ) → nesting (drop from (lexemes text tokens)) ≤ length tokens
nesting_of_rest text tokens from = omega (arith, nesting_within (drop from (lexemes text tokens)), length-drop from (lexemes text tokens), length-map tokens (lexeme text))
