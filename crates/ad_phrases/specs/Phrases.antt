-- What is built from the token that a phrase begins at.
use Rattle.std.specs.Prelude.{◌≡◌, ℕ, ◌-◌, ◌≤◌, List, ◌∷◌, ◌++◌, take, drop, Result, Ok, Err}
use Rattle.ad_lex.specs.Lexemes.{lexeme, lexemes}
use Rattle.ad_lex.specs.declared.token.Token.{Token}
use Rattle.ad_grammar.specs.Shapes.{Text}
use Rattle.ad_grammar.specs.Names.{Words}
use Rattle.ad_grammar.specs.Faults.{Form, IsLongest}
use Rattle.ad_grammar_laws.specs.Known.{IsKnown, AreKnown}
use Rattle.ad_phrases.specs.declared.phrases.BuildRefused.{BuildRefused}
use Rattle.ad_phrases.specs.declared.phrases.BuildRefused.TheVariants.{Prefix, Memory}

-- a phrase of the form begins here, as the checks find it
abbrev pub HasPhrase : Form → Text → Type 0
HasPhrase form ts = (size : ℕ) × IsLongest form ts size

-- the longest phrase of the form that begins at a token ends before another one, and spells this
pub record IsBuilt {X : Type 0} (form : Form) (spells : X → Text → Type 0) (ts : Text) (from : ℕ) (x : X) (to : ℕ) : Type 0 where
  pub after : from ≤ to
  pub longest : IsLongest form (drop from ts) (to - from)
  pub spelled : spells x (take (to - from) (drop from ts))

-- a token is the first of these that is a name whose prefix isn't known
pub record IsFirstUnknown (words : Words) (text : List ℕ) (tokens : List Token) (token : Token) : Type 0 where
  pub before : List Token
  pub behind : List Token
  pub is : tokens ≡ before ++ token ∷ behind
  pub known : AreKnown words (lexemes text before)
  pub unknown : IsKnown words (lexeme text token) → ⊥

-- the first such name of the longest phrase of the form that begins at a token
pub record IsUnknownIn (form : Form) (words : Words) (text : List ℕ) (tokens : List Token) (from : ℕ) (token : Token) : Type 0 where
  pub size : ℕ
  pub longest : IsLongest form (drop from (lexemes text tokens)) size
  pub first : IsFirstUnknown words text (take size (drop from tokens)) token

-- a phrase of the form that begins at a token is not built for this cause
abbrev pub RefusesPhrase : Form → Words → List ℕ → List Token → ℕ → BuildRefused → Type 0
RefusesPhrase form words text tokens from (Prefix at) = (token : Token) × IsUnknownIn form words text tokens from token × (at ≡ token.from)
RefusesPhrase form words text tokens from Memory = Unit {0}

-- the same, where the tokens of the phrase are given
abbrev pub RefusesIn : Words → List ℕ → List Token → BuildRefused → Type 0
RefusesIn words text tokens (Prefix at) = (token : Token) × IsFirstUnknown words text tokens token × (at ≡ token.from)
RefusesIn words text tokens Memory = ⊥

-- this is built, with the token behind it, or memory was wanting
abbrev pub IsBuiltOrMemory : {X : Type 0} → Result (X × ℕ) BuildRefused → X → ℕ → Type 0
IsBuiltOrMemory (Ok built) x to = (built.0 ≡ x) × (built.1 ≡ to)
IsBuiltOrMemory (Err refused) x to = refused ≡ Memory

-- the prefix of a name that begins here is refused, or memory was wanting
abbrev pub IsPrefixOrMemory : {X : Type 0} → Result (X × ℕ) BuildRefused → ℕ → Type 0
IsPrefixOrMemory (Ok built) at = ⊥
IsPrefixOrMemory (Err (Prefix place)) at = place ≡ at
IsPrefixOrMemory (Err Memory) at = Unit {0}
