-- What the checker's own functions answer, in terms of the reading of a text's tokens ts.
use Rattle.std.specs.Prelude.{◌≡◌, ℕ, ◌<◌, ◌≤◌, List, ◌++◌, length, get_or, take, drop, Option, None, Some, Result, Ok, Err}
use Rattle.ad_lex.specs.Lexemes.{Lexeme, lexeme, lexemes}
use Rattle.ad_lex.specs.Spans.{IsTokenOf}
use Rattle.ad_lex.specs.declared.token.Token.{Token}
use Rattle.ad_grammar.specs.Shapes.{Text}
use Rattle.ad_check.specs.declared.items.Symbol.{Symbol}
use Rattle.ad_check.specs.declared.items.Symbol.TheVariants as it
use Rattle.ad_check.specs.declared.items.Halt.{Halt}
use Rattle.ad_check.specs.Machine.{fault}

-- the token at this place
pub record IsNext (ts : Text) (at : ℕ) (t : Lexeme) : Type 0 where
  pub within : at < length ts
  pub is : get_or ts at t ≡ t

-- the token of a text at this place, or none at its end
abbrev pub LooksAt : List ℕ → List Token → ℕ → Option Token → Type 0
LooksAt text tokens at None = at ≡ length (lexemes text tokens)
LooksAt text tokens at (Some token) = IsTokenOf text token × IsNext (lexemes text tokens) at (lexeme text token)

-- the items are read from one token up to another, whatever stands behind them, and wherever the text is cut off behind that
pub record Passes (ts : Text) (items : List Symbol) (from to : ℕ) : Type 0 where
  pub order : from ≤ to
  pub within : to ≤ length ts
  pub reads : (n : ℕ) (more : List Symbol) → to ≤ n → n ≤ length ts → fault from (items ++ more) (drop from (take n ts)) ≡ fault to more (drop to (take n ts))

-- the reading of the items from a token on stops there
abbrev pub Halts : Text → List Symbol → ℕ → Halt → Type 0
Halts ts items from stop = (more : List Symbol) → fault from (items ++ more) (drop from ts) ≡ Some stop

abbrev pub Reads : Text → List Symbol → ℕ → Result ℕ Halt → Type 0
Reads ts items from (Ok to) = Passes ts items from to
Reads ts items from (Err stop) = Halts ts items from stop

-- what is read behind a place makes what is read before it
abbrev pub Leads : Text → List Symbol → ℕ → List Symbol → ℕ → Type 0
Leads ts behind at whole from = (result : Result ℕ Halt) → Reads ts behind at result → Reads ts whole from result

-- an item that is one token
abbrev pub IsSign : Symbol → Type 0
IsSign it.Left = Unit {0}
IsSign it.Right = Unit {0}
IsSign it.Equals = Unit {0}
IsSign it.Full = Unit {0}
IsSign it.Label = Unit {0}
IsSign _ = ⊥
