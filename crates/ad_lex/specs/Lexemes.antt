-- What a token says, without its place in the text: all that a grammar needs to know of it.
use Rattle.std.specs.Prelude.{ℕ, ◌==◌, ◌&&◌, ◌||◌, Bool, true, false, not, List, [], ◌∷◌, ◌++◌, drop, map, if◌then◌else◌}
use Rattle.ad_lex.specs.declared.token.Mark.{Mark}
use Rattle.ad_lex.specs.declared.token.Mark.TheVariants as mark
use Rattle.ad_lex.specs.declared.token.Token.{Token}
use Rattle.ad_lex.specs.Shapes.{inner, prefix_of, local_of}
use Rattle.ad_lex.specs.Spans.{span}

-- names and texts are lists of bytes
pub data Lexeme : Type 0 where
  Left : Lexeme
  Right : Lexeme
  Equals : Lexeme
  Carets : Lexeme
  Plus : Lexeme
  Minus : Lexeme
  Iri : (name : List ℕ) → Lexeme
  Text : (value : List ℕ) → Lexeme
  Plain : (word : List ℕ) → Lexeme
  Short : (prefix local : List ℕ) → Lexeme
  Node : (label : List ℕ) → Lexeme
  Lang : (tag : List ℕ) → Lexeme

-- a quote or a \
abbrev pub is_escapable : ℕ → Bool
is_escapable c = c == 34 || c == 92

-- what a character of a string stands for, which is told behind a \ (held) for both: \" stands for ", \\ for \, and a \ before another character for itself
abbrev pub stands_for : Bool → ℕ → List ℕ
stands_for true c = if is_escapable c then c ∷ [] else 92 ∷ c ∷ []
stands_for false c = if c == 92 then [] else c ∷ []

-- the value of a string's inside, of which a \ before it may be held
abbrev pub value_from : Bool → List ℕ → List ℕ
value_from held [] = if held then 92 ∷ [] else []
value_from held (c ∷ rest) = stands_for held c ++ value_from (not held && c == 92) rest

abbrev pub string_value : List ℕ → List ℕ
string_value inside = value_from false inside

abbrev pub lexeme_of : Mark → List ℕ → Lexeme
lexeme_of mark.Left bytes = Left
lexeme_of mark.Right bytes = Right
lexeme_of mark.Equals bytes = Equals
lexeme_of mark.Carets bytes = Carets
lexeme_of mark.Plus bytes = Plus
lexeme_of mark.Minus bytes = Minus
-- the characters between < and >
lexeme_of mark.Iri bytes = Iri (inner bytes)
-- the value of what stands between the quotes
lexeme_of mark.Text bytes = Text (string_value (inner bytes))
lexeme_of mark.Plain bytes = Plain bytes
-- the first colon splits the word
lexeme_of mark.Short bytes = Short (prefix_of bytes) (local_of bytes)
-- the label behind _:
lexeme_of mark.Node bytes = Node (drop 2 bytes)
-- the tag behind @
lexeme_of mark.Lang bytes = Lang (drop 1 bytes)

-- what a token of a text says, and what all do
abbrev pub lexeme : List ℕ → Token → Lexeme
lexeme text t = lexeme_of t.mark (span text t)

abbrev pub lexemes : List ℕ → List Token → List Lexeme
lexemes text ts = map (lexeme text) ts
