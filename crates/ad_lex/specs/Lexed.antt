-- The tokens of a text, and its faults.
use Rattle.std.specs.Prelude.{◌≡◌, ℕ, ◌⊎◌, ◌+◌, List, [], ◌∷◌, drop, nat_eq, Result, Ok, Err, ⊤, if◌then◌else◌}
use Rattle.std.specs.List.{starts_with}
use Rattle.std.specs.Str.{IsUtf8}
use Rattle.std.specs.Str.Lossy.{utf8_valid_len}
use Rattle.ad_lex.specs.declared.token.Mark.{Mark}
use Rattle.ad_lex.specs.declared.token.Token.{Token}
use Rattle.ad_lex.specs.declared.token.LexFault.{LexFault}
use Rattle.ad_lex.specs.declared.token.LexFault.TheVariants as fault
use Rattle.ad_lex.specs.declared.token.LexRefused.{LexRefused}
use Rattle.ad_lex.specs.declared.token.LexRefused.TheVariants.{Fault, Memory}
use Rattle.ad_lex.specs.declared.front.Front.TheVariants.{Over, Skips, Takes, Char, OpenString, OpenIri}
use Rattle.ad_lex.specs.Fronts.{front}

abbrev pub token_at : ℕ → ℕ → Mark → Token
token_at at n m = record { from = at; to = at + n; mark = m }

-- the rest of a text, from the byte at on, has these tokens
pub data Lexes : ℕ → List ℕ → List Token → Type 0 where
  over : (at : ℕ) (rest : List ℕ) → front rest ≡ Over → Lexes at rest []
  skips : (at n : ℕ) (rest : List ℕ) (ts : List Token) → front rest ≡ Skips n → Lexes (at + n) (drop n rest) ts → Lexes at rest ts
  takes : (at n : ℕ) (m : Mark) (rest : List ℕ) (ts : List Token) → front rest ≡ Takes m n → Lexes (at + n) (drop n rest) ts → Lexes at rest (token_at at n m ∷ ts)

-- the rest of a text, from the byte at on, has this fault first
pub data Faults : ℕ → List ℕ → LexFault → Type 0 where
  no_token : (at : ℕ) (rest : List ℕ) → front rest ≡ Char → Faults at rest (fault.Char at)
  open_string : (at : ℕ) (rest : List ℕ) → front rest ≡ OpenString → Faults at rest (fault.OpenString at)
  open_iri : (at : ℕ) (rest : List ℕ) → front rest ≡ OpenIri → Faults at rest (fault.OpenIri at)
  after_skip : (at n : ℕ) (rest : List ℕ) (f : LexFault) → front rest ≡ Skips n → Faults (at + n) (drop n rest) f → Faults at rest f
  after_token : (at n : ℕ) (m : Mark) (rest : List ℕ) (f : LexFault) → front rest ≡ Takes m n → Faults (at + n) (drop n rest) f → Faults at rest f

-- a byte order mark, U+FEFF, that is the first character of the text is a blank; anywhere else it is a word character
abbrev pub start : List ℕ → ℕ
start text = if starts_with nat_eq text (239 ∷ 187 ∷ 191 ∷ []) then 3 else 0

-- the text is UTF-8, and has these tokens
abbrev pub IsLexed : List ℕ → List Token → Type 0
IsLexed text ts = IsUtf8 text × Lexes (start text) (drop (start text) text) ts

-- the text isn't UTF-8, and no UTF-8 character begins at this byte, which comes before all other faults; or it is, and this fault comes first
abbrev pub IsFault : List ℕ → LexFault → Type 0
IsFault text f = ((¬ (IsUtf8 text)) × (f ≡ fault.Utf8 (utf8_valid_len text))) ⊎ (IsUtf8 text × Faults (start text) (drop (start text) text) f)

-- what holds of the fault that is answered
abbrev pub IfFault : {T : Type 0} → Result T LexRefused → (LexFault → Type 0) → Type 0
IfFault (Ok x) P = ⊤
IfFault (Err (Fault f)) P = P f
IfFault (Err Memory) P = ⊤

-- these tokens are answered, unless memory ran out
abbrev pub AreTokensOrMemory : Result (List Token) LexRefused → List Token → Type 0
AreTokensOrMemory (Ok found) ts = found ≡ ts
AreTokensOrMemory (Err refused) ts = refused ≡ Memory

-- this fault is answered, unless memory ran out
abbrev pub IsFaultOrMemory : {T : Type 0} → Result T LexRefused → LexFault → Type 0
IsFaultOrMemory (Ok found) f = ⊥
IsFaultOrMemory (Err (Fault found)) f = found ≡ f
IsFaultOrMemory (Err Memory) f = ⊤
