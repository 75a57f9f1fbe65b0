-- What a reader answers.
use Rattle.std.specs.Prelude.{◌≡◌, ◌<◌, ℕ, List, Option, None, Some, Result, Ok, Err}
use Rattle.ad_lex.specs.Lexed.{IsLexed, IsFault}
use Rattle.ad_lex.specs.Lexemes.{lexemes}
use Rattle.ad_lex.specs.declared.token.Token.{Token}
use Rattle.ad_grammar.specs.Faults.{Form, IsFirstFault}
use Rattle.ad_check.specs.Stops.{GoesOnBy}
use Rattle.ad_check.specs.declared.texts.Unsupported.{Unsupported}
use Rattle.ad_read.specs.Prefixed.{IsDeclaredTwice, IsUnknown}
use Rattle.ad_read.specs.Texts.{depth, IsShallow, IsFormed, place}
use Rattle.ad_read.specs.declared.texts.ReadRefused.{ReadRefused}
use Rattle.ad_read.specs.declared.texts.ReadRefused.TheVariants.{Lex, Depth, Syntax, Unsupported as NotSupported, Prefix, PrefixTwice, Memory}

-- the text's first fault of the form, with the part of the wide grammar that goes on there, if one does
abbrev pub StopsAt : Form → ℕ → List ℕ → ℕ → Option Unsupported → Type 0
StopsAt form limit text at what = (tokens : List Token) × IsShallow form limit text tokens × (token : ℕ) × IsFirstFault form (lexemes text tokens) token × GoesOnBy form (lexemes text tokens) token what × (at ≡ place text tokens token)

-- A text of this form is refused for this cause. Each cause comes after those above it: a text with a fault in
-- its tokens has no nesting, one that nests too deep is not compared with the grammar, and the prefixes of one
-- that isn't of the form don't matter.
abbrev pub Refuses : Form → ℕ → List ℕ → ReadRefused → Type 0
Refuses form limit text (Lex fault) = IsFault text fault
Refuses form limit text (Depth nesting) = (tokens : List Token) × IsLexed text tokens × (nesting ≡ depth form (lexemes text tokens)) × (limit < nesting)
Refuses form limit text (Syntax at) = StopsAt form limit text at None
Refuses form limit text (NotSupported at what) = StopsAt form limit text at (Some what)
Refuses form limit text (Prefix at) = (tokens : List Token) × IsFormed form limit text tokens × (token : ℕ) × IsUnknown (lexemes text tokens) token × (at ≡ place text tokens token)
Refuses form limit text (PrefixTwice at) = (tokens : List Token) × IsFormed form limit text tokens × (token : ℕ) × IsDeclaredTwice (lexemes text tokens) token × (at ≡ place text tokens token)
Refuses form limit text Memory = Unit {0}

-- this is read, or memory was wanting
abbrev pub IsReadOrMemory : {X : Type 0} → Result X ReadRefused → X → Type 0
IsReadOrMemory (Ok found) x = found ≡ x
IsReadOrMemory (Err refused) x = refused ≡ Memory
