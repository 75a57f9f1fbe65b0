-- The shape of a token's bytes, by its mark.
use Rattle.std.specs.Prelude.{◌≡◌, ◌≢◌, ℕ, ◌-◌, ◌<◌, false, List, [], ◌∷◌, ◌++◌, length, drop, slice_range, slice_index, None, Some, codes}
use Rattle.std.specs.List.{AllPass, before_first, after_first, position}
use Rattle.ad_lex.specs.declared.token.Mark.{Mark}
use Rattle.ad_lex.specs.declared.token.Mark.TheVariants.{Left, Right, Equals, Carets, Plus, Minus, Iri, Text, Plain, Short, Node, Lang}
use Rattle.ad_lex.specs.declared.kind.CharKind.TheVariants.{Other}
use Rattle.ad_lex.specs.Characters.{kind_of, is_word, is_iri, is_colon}
use Rattle.ad_lex.specs.Fronts.{string_len}

-- what stands between the first byte and the last
abbrev pub inner : List ℕ → List ℕ
inner bytes = slice_range bytes 1 (length bytes - 1)

-- what stands before the first colon of a word, and behind it
abbrev pub prefix_of : List ℕ → List ℕ
prefix_of bytes = before_first is_colon bytes

abbrev pub local_of : List ℕ → List ℕ
local_of bytes = after_first is_colon bytes

-- < and >, and between them no blank and none of < > "
pub record IsIri (bytes : List ℕ) : Type 0 where
  pub spelled : bytes ≡ 60 ∷ (inner bytes ++ 62 ∷ [])
  pub each : AllPass is_iri (inner bytes)

-- a quote at both ends, of which the second is the first one behind the first that no \ takes the meaning from
pub record IsText (bytes : List ℕ) : Type 0 where
  pub spelled : bytes ≡ 34 ∷ (inner bytes ++ 34 ∷ [])
  pub closed : string_len false (inner bytes ++ 34 ∷ []) ≡ Some (length (inner bytes))

-- one or more word characters, of which the first isn't + or -
pub record IsWord (bytes : List ℕ) : Type 0 where
  pub some : 0 < length bytes
  pub each : AllPass is_word bytes
  pub first : kind_of (slice_index bytes 0) ≡ Other

-- a word without a colon
pub record IsPlain (bytes : List ℕ) : Type 0 where
  pub is_word : IsWord bytes
  pub whole : position is_colon bytes ≡ None

-- a word with a colon, and not with the prefix _
pub record IsShort (bytes : List ℕ) : Type 0 where
  pub is_word : IsWord bytes
  pub spelled : bytes ≡ prefix_of bytes ++ 58 ∷ local_of bytes
  pub prefix : prefix_of bytes ≢ codes "_"

-- a word with the prefix _
pub record IsNode (bytes : List ℕ) : Type 0 where
  pub is_word : IsWord bytes
  pub spelled : bytes ≡ 95 ∷ 58 ∷ drop 2 bytes

-- @ and one or more word characters
pub record IsLang (bytes : List ℕ) : Type 0 where
  pub spelled : bytes ≡ 64 ∷ drop 1 bytes
  pub some : 0 < length (drop 1 bytes)
  pub each : AllPass is_word (drop 1 bytes)

abbrev pub HasShape : Mark → List ℕ → Type 0
HasShape Left bytes = bytes ≡ codes "("
HasShape Right bytes = bytes ≡ codes ")"
HasShape Equals bytes = bytes ≡ codes "="
HasShape Carets bytes = bytes ≡ codes "^^"
HasShape Plus bytes = bytes ≡ codes "+"
HasShape Minus bytes = bytes ≡ codes "-"
HasShape Iri bytes = IsIri bytes
HasShape Text bytes = IsText bytes
HasShape Plain bytes = IsPlain bytes
HasShape Short bytes = IsShort bytes
HasShape Node bytes = IsNode bytes
HasShape Lang bytes = IsLang bytes
