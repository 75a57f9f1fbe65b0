-- Six tokens of a text that may be a declaration.
use Rattle.std.specs.Prelude.{◌≡◌, ℕ, ◌+◌, ◌*◌, ◌≤◌, ◌++◌, List, [], ◌∷◌, length, drop, slice_get, Option, Some, is_some, true, Result, Ok, Err, ⊤}
use Rattle.ad_lex.specs.Lexemes.{lexeme, lexemes}
use Rattle.ad_lex.specs.Spans.{IsTokenOf}
use Rattle.ad_grammar.specs.Texts.{Declared, AreDistinct, iri_of}
use Rattle.ad_prefixes.specs.declared.heads.Phrase.{Phrase}
use Rattle.ad_prefixes.specs.declared.heads.PrefixRefused.{PrefixRefused}
use Rattle.ad_prefixes.specs.declared.heads.PrefixRefused.TheVariants.{Twice, Memory}
use Rattle.ad_lex.specs.declared.token.Token.{Token}
use Rattle.ad_prefixes.specs.Declarations.{declared}
use Rattle.ad_prefixes.specs.Heads.{taking, declaration, heads}

pub record AreTokensOfPhrase (text : List ℕ) (p : Phrase) : Type 0 where
  pub word : IsTokenOf text p.word
  pub short : IsTokenOf text p.short
  pub iri : IsTokenOf text p.iri

abbrev pub declares : List ℕ → Phrase → Option Declared
declares text p = declaration (lexeme text p.word) (lexeme text p.left) (lexeme text p.short) (lexeme text p.equals) (lexeme text p.iri) (lexeme text p.right)

-- a declaration stands here, whose prefix is this token
pub record IsDeclaredAt (text : List ℕ) (tokens : List Token) (at : ℕ) (short : Token) (prefix iri : List ℕ) : Type 0 where
  pub within : at + 6 ≤ length tokens
  pub third : slice_get tokens (at + 2) ≡ Some short
  pub goes : heads (lexemes text (drop at tokens)) ≡ taking (declared (prefix, iri)) (heads (lexemes text (drop (at + 6) tokens)))

-- the first declaration of a prefix that is declared before it stands here: the ds before it are distinct
pub record IsTwice (text : List ℕ) (tokens : List Token) (place : ℕ) (before after : List Declared) (again : Declared) (short : Token) : Type 0 where
  pub all : (heads (lexemes text tokens)).0 ≡ before ++ again ∷ after
  pub distinct : AreDistinct before
  pub twice : is_some (iri_of before again.prefix) ≡ true
  pub third : slice_get tokens (6 * length before + 2) ≡ Some short
  pub here : place ≡ short.from

abbrev pub IsTwiceAt : List ℕ → List Token → ℕ → Type 0
IsTwiceAt text tokens place = (before : List Declared) × (after : List Declared) × (again : Declared) × (short : Token) × IsTwice text tokens place before after again short

-- what holds of the place of a prefix that is declared twice
abbrev pub IfTwice : {T : Type 0} → Result T PrefixRefused → (ℕ → Type 0) → Type 0
IfTwice (Ok x) P = ⊤
IfTwice (Err (Twice place)) P = P place
IfTwice (Err Memory) P = ⊤
