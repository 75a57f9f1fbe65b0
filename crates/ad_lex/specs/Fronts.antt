-- What stands at the front of a text, by its first character.
use Rattle.std.specs.Prelude.{ℕ, ◌+◌, ◌==◌, Bool, true, false, List, [], ◌∷◌, take, drop, Option, None, Some, if◌then◌else◌, codes}
use Rattle.std.specs.List.{prefix_len, take_while, position}
use Rattle.std.specs.Str.{bytes_eq}
use Rattle.ad_lex.specs.declared.token.Mark.{Mark}
use Rattle.ad_lex.specs.declared.token.Mark.TheVariants as mark
use Rattle.ad_lex.specs.declared.front.Front.{Front}
use Rattle.ad_lex.specs.declared.front.Front.TheVariants.{Over, Skips, Takes, Char, OpenString, OpenIri}
use Rattle.ad_lex.specs.declared.kind.CharKind.{CharKind}
use Rattle.ad_lex.specs.declared.kind.CharKind.TheVariants.{Blank, Hash, Left, Right, Equals, Caret, Less, Greater, Quote, At, Plus, Minus, Other}
use Rattle.ad_lex.specs.Characters.{kind_of, is_word, is_iri, goes_on, is_colon}

-- ^^ is Carets; a ^ that isn't followed by ^ is a fault
abbrev pub carets : List ℕ → Front
carets [] = Char
carets (c ∷ rest) = if c == 94 then Takes mark.Carets 2 else Char

-- < begins an Iri: any characters except <, >, " and blanks, possibly none (n bytes), and then >; where another character or the end comes, the IRI is open
abbrev pub closed_iri : ℕ → List ℕ → Front
closed_iri n [] = OpenIri
closed_iri n (c ∷ rest) = if c == 62 then Takes mark.Iri (n + 2) else OpenIri

abbrev pub iri : List ℕ → Front
iri rest = closed_iri (prefix_len is_iri rest) (drop (prefix_len is_iri rest) rest)

abbrev pub more : Option ℕ → Option ℕ
more None = None
more (Some n) = Some (n + 1)

-- how many bytes stand before the quote that closes a string, if one does. A \ before a quote or another \ takes its meaning away (escaped: such a \ stands before)
abbrev pub string_len : Bool → List ℕ → Option ℕ
string_len escaped [] = None
string_len true (c ∷ rest) = more (string_len false rest)
string_len false (c ∷ rest) = if c == 34 then Some 0 else more (string_len (c == 92) rest)

-- " begins a Text; where the end comes before the quote that closes it, the string is open
abbrev pub closed_string : Option ℕ → Front
closed_string None = OpenString
closed_string (Some n) = Takes mark.Text (n + 2)

abbrev pub string : List ℕ → Front
string rest = closed_string (string_len false rest)

-- @ followed by one or more word characters is one Lang; followed by none it is a fault
abbrev pub lang : List ℕ → Front
lang rest = let n = prefix_len is_word rest in if n == 0 then Char else Takes mark.Lang (n + 1)

-- a word without : is Plain; otherwise the first : splits it into prefix and local part; with the prefix _ it is a Node, else it is Short
abbrev pub split_mark : List ℕ → Option ℕ → Mark
split_mark w None = mark.Plain
split_mark w (Some colon) = if bytes_eq (take colon w) (codes "_") then mark.Node else mark.Short

abbrev pub word_mark : List ℕ → Mark
word_mark w = split_mark w (position is_colon w)

-- a longest run of word characters is a word
abbrev pub word : List ℕ → Front
word text = Takes (word_mark (take_while is_word text)) (prefix_len is_word text)

-- by the kind of the first character; the rest of the text follows it
abbrev pub front_by : CharKind → ℕ → List ℕ → Front
-- blanks are no tokens
front_by Blank c rest = Skips 1
-- # begins a comment that ends before the next CR or LF, or with the text
front_by Hash c rest = Skips (prefix_len goes_on rest + 1)
-- ( is Left, ) is Right, = is Equals
front_by Left c rest = Takes mark.Left 1
front_by Right c rest = Takes mark.Right 1
front_by Equals c rest = Takes mark.Equals 1
front_by Caret c rest = carets rest
front_by Less c rest = iri rest
-- a > outside <..> is a fault
front_by Greater c rest = Char
front_by Quote c rest = string rest
front_by At c rest = lang rest
-- where a word would begin with + or -, that one character is a token of its own
front_by Plus c rest = Takes mark.Plus 1
front_by Minus c rest = Takes mark.Minus 1
-- else a longest run of word characters
front_by Other c rest = word (c ∷ rest)

unfoldable pub front : List ℕ → Front
front [] = Over
front (c ∷ rest) = front_by (kind_of c) c rest
