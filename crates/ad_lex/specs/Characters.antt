-- The characters that the rules on tokens tell apart. They are ASCII, so each byte of any other character is as good as the character: it is a word character, and stands in strings and IRIs.
use Rattle.std.specs.Prelude.{ℕ, Bool, true, false, not, ◌==◌, ◌&&◌, ◌||◌, if◌then◌else◌}
use Rattle.ad_lex.specs.declared.kind.CharKind.{CharKind}
use Rattle.ad_lex.specs.declared.kind.CharKind.TheVariants.{Blank, Hash, Left, Right, Equals, Caret, Less, Greater, Quote, At, Plus, Minus, Other}

-- blanks are space, tab, CR and LF
abbrev pub is_blank : ℕ → Bool
is_blank c = c == 32 || c == 9 || c == 13 || c == 10

unfoldable pub kind_of : ℕ → CharKind
kind_of c =
    if is_blank c then Blank
    else (if c == 35 then Hash  -- #
    else (if c == 40 then Left  -- (
    else (if c == 41 then Right  -- )
    else (if c == 61 then Equals  -- =
    else (if c == 94 then Caret  -- ^
    else (if c == 60 then Less  -- <
    else (if c == 62 then Greater  -- >
    else (if c == 34 then Quote  -- "
    else (if c == 64 then At  -- @
    else (if c == 43 then Plus  -- +
    else (if c == 45 then Minus  -- -
    else Other)))))))))))

-- a word character is any character except blanks and ( ) < > " = @ ^ #, so it is + or - or one that has no part in these rules
abbrev pub is_word_kind : CharKind → Bool
is_word_kind Blank = false
is_word_kind Hash = false
is_word_kind Left = false
is_word_kind Right = false
is_word_kind Equals = false
is_word_kind Caret = false
is_word_kind Less = false
is_word_kind Greater = false
is_word_kind Quote = false
is_word_kind At = false
is_word_kind Plus = true
is_word_kind Minus = true
is_word_kind Other = true

abbrev pub is_word : ℕ → Bool
is_word c = is_word_kind (kind_of c)

-- between < and > stand any characters except <, >, " and blanks
abbrev pub is_iri_kind : CharKind → Bool
is_iri_kind Blank = false
is_iri_kind Less = false
is_iri_kind Greater = false
is_iri_kind Quote = false
is_iri_kind Hash = true
is_iri_kind Left = true
is_iri_kind Right = true
is_iri_kind Equals = true
is_iri_kind Caret = true
is_iri_kind At = true
is_iri_kind Plus = true
is_iri_kind Minus = true
is_iri_kind Other = true

abbrev pub is_iri : ℕ → Bool
is_iri c = is_iri_kind (kind_of c)

-- a comment goes on up to the next CR or LF
abbrev pub goes_on : ℕ → Bool
goes_on c = not (c == 13) && not (c == 10)

-- the colon splits a word into prefix and local part
abbrev pub is_colon : ℕ → Bool
is_colon c = c == 58
