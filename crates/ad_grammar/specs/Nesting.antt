-- How deep the parentheses of a text nest.
use Rattle.std.specs.Prelude.{◌≡◌, ℕ, ◌+◌, ◌-◌, ◌≤◌, [], ◌∷◌, take}
use Rattle.ad_lex.specs.Lexemes.{Lexeme}
use Rattle.ad_lex.specs.Lexemes as says
use Rattle.ad_grammar.specs.Shapes.{Text}

abbrev pub lefts : Text → ℕ
lefts [] = 0
lefts (says.Left ∷ ts) = lefts ts + 1
lefts (_ ∷ ts) = lefts ts

abbrev pub rights : Text → ℕ
rights [] = 0
rights (says.Right ∷ ts) = rights ts + 1
rights (_ ∷ ts) = rights ts

-- the parentheses that are open behind this many tokens, 0 where more are closed than opened
abbrev pub open_behind : Text → ℕ → ℕ
open_behind ts n = lefts (take n ts) - rights (take n ts)

-- over all fronts of the text, the greatest number of left parentheses less right ones, or 0 where that is negative
pub record IsNesting (ts : Text) (depth : ℕ) : Type 0 where
  pub most : (n : ℕ) → open_behind ts n ≤ depth
  pub reached : (n : ℕ) × (open_behind ts n ≡ depth)

-- the same as a function: a parenthesis at the front stands around all that follows
abbrev pub nesting : Text → ℕ
nesting [] = 0
nesting (says.Left ∷ ts) = nesting ts + 1
nesting (says.Right ∷ ts) = nesting ts - 1
nesting (_ ∷ ts) = nesting ts

-- of a document the parentheses of the ontology don't count
abbrev pub document_nesting : Text → ℕ
document_nesting ts = nesting ts - 1
