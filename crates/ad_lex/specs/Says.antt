-- What a text says, without places, and how tokens are written.
use Rattle.std.specs.Prelude.{◌≡◌, ℕ, Bool, false, List, [], ◌∷◌, ◌++◌, take, drop, if◌then◌else◌}
use Rattle.ad_lex.specs.declared.token.Mark.{Mark}
use Rattle.ad_lex.specs.declared.token.Mark.TheVariants as mark
use Rattle.ad_lex.specs.declared.front.Front.TheVariants.{Over, Skips, Takes}
use Rattle.ad_lex.specs.Characters.{is_word}
use Rattle.ad_lex.specs.Fronts.{front}
use Rattle.ad_lex.specs.Lexemes.{Lexeme, lexeme_of, is_escapable}

-- the rest of a text says this
pub data Says : List ℕ → List Lexeme → Type 0 where
  says_over : (rest : List ℕ) → front rest ≡ Over → Says rest []
  says_skips : (n : ℕ) (rest : List ℕ) (ls : List Lexeme) → front rest ≡ Skips n → Says (drop n rest) ls → Says rest ls
  says_takes : (n : ℕ) (m : Mark) (rest : List ℕ) (ls : List Lexeme) → front rest ≡ Takes m n → Says (drop n rest) ls → Says rest (lexeme_of m (take n rest) ∷ ls)

-- whether the first character of the text would go on a word
abbrev pub begins_word : List ℕ → Bool
begins_word [] = false
begins_word (c ∷ rest) = is_word c

-- a token of this mark ends before this text: a word or a tag ends where no word character follows
abbrev pub EndsBefore : Mark → List ℕ → Type 0
EndsBefore mark.Left rest = Unit {0}
EndsBefore mark.Right rest = Unit {0}
EndsBefore mark.Equals rest = Unit {0}
EndsBefore mark.Carets rest = Unit {0}
EndsBefore mark.Plus rest = Unit {0}
EndsBefore mark.Minus rest = Unit {0}
EndsBefore mark.Iri rest = Unit {0}
EndsBefore mark.Text rest = Unit {0}
EndsBefore mark.Plain rest = begins_word rest ≡ false
EndsBefore mark.Short rest = begins_word rest ≡ false
EndsBefore mark.Node rest = begins_word rest ≡ false
EndsBefore mark.Lang rest = begins_word rest ≡ false

-- a value as it stands between the quotes of a string: a \ before each quote and each \
abbrev pub escaped : List ℕ → List ℕ
escaped [] = []
escaped (c ∷ rest) = (if is_escapable c then 92 ∷ c ∷ [] else c ∷ []) ++ escaped rest
