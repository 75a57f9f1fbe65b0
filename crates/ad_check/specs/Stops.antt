-- What the public checks answer.
use Rattle.std.specs.Prelude.{◌≡◌, ◌≢◌, ℕ, ◌-◌, ◌≤◌, true, false, ◌∷◌, drop, Option, None, Some, Result, Ok, Err}
use Rattle.ad_lex.specs.Lexemes.{Lexeme}
use Rattle.ad_lex.specs.Lexemes as says
use Rattle.ad_write.specs.Keywords as kw
use Rattle.ad_grammar.specs.Shapes.{Text}
use Rattle.ad_grammar.specs.Faults.{Form, class, range, property, individual, literal, IsOf, IsFirstFault, IsWide, IsLongest, IsNoPhrase}
use Rattle.ad_check.specs.declared.items.Halt.{Halt}
use Rattle.ad_check.specs.declared.texts.Stop.{Stop}
use Rattle.ad_check.specs.declared.texts.Phrase.{Phrase}
use Rattle.ad_check.specs.declared.texts.Phrase.TheVariants as phrase
use Rattle.ad_check.specs.declared.texts.Unsupported.{Unsupported}
use Rattle.ad_check.specs.declared.texts.Unsupported.TheVariants.{Import, Rule, Nary}

-- which part of the wide grammar goes on at a token: its word tells an import and a rule, and any other token is a
-- further property of a restriction on data, or its range
abbrev pub IsAddition : Unsupported → Lexeme → Type 0
IsAddition Import t = t ≡ says.Plain kw.Import
IsAddition Rule t = t ≡ says.Plain kw.DLSafeRule
IsAddition Nary t = (t ≢ says.Plain kw.Import) × (t ≢ says.Plain kw.DLSafeRule)

-- the same of the token at a place
abbrev pub IsAdditionAt : Unsupported → Text → ℕ → Type 0
IsAdditionAt what ts at = (t : Lexeme) × (rest : Text) × (drop at ts ≡ t ∷ rest) × IsAddition what t

-- whether the tokens up to and with this one begin a text of the wide grammar, and by which part of it
abbrev pub GoesOnBy : Form → Text → ℕ → Option Unsupported → Type 0
GoesOnBy form ts at None = IsWide form ts at → ⊥
GoesOnBy form ts at (Some what) = IsWide form ts at × IsAdditionAt what ts at

-- the same of the checker's own stops
abbrev pub Names : Text → Halt → Option Unsupported → Type 0
Names ts halt None = halt.wide ≡ false
Names ts halt (Some what) = (halt.wide ≡ true) × IsAdditionAt what ts halt.token

-- a text of the form, or its first fault
abbrev pub Checks : {T : Type 0} → Form → Text → Result T Stop → Type 0
Checks form ts (Ok done) = IsOf false form ts
Checks form ts (Err stop) = IsFirstFault form ts stop.token × GoesOnBy form ts stop.token stop.what

-- the longest phrase of the form that begins at this token, or, where none does, the first token at which none goes on
abbrev pub ChecksFrom : Form → Text → ℕ → Result ℕ Stop → Type 0
ChecksFrom form ts from (Ok to) = (from ≤ to) × IsLongest form (drop from ts) (to - from)
ChecksFrom form ts from (Err stop) = (from ≤ stop.token) × IsNoPhrase form (drop from ts) × IsFirstFault form (drop from ts) (stop.token - from) × GoesOnBy form (drop from ts) (stop.token - from) stop.what

-- the form of texts that a form of phrases is
abbrev pub form_of : Phrase → Form
form_of phrase.Class = class
form_of phrase.Range = range
form_of phrase.Property = property
form_of phrase.Individual = individual
form_of phrase.Literal = literal
