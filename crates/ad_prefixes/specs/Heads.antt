-- The prefix declarations in front of a text.
use Rattle.std.specs.Prelude.{◌≡◌, ℕ, ◌*◌, ◌+◌, ◌<◌, Bool, true, false, ◌&&◌, cond, List, [], ◌∷◌, ◌++◌, length, take, get_or, is_some, Option, None, Some, codes}
use Rattle.std.specs.Str.{bytes_eq}
use Rattle.ad_lex.specs.Lexemes.{Lexeme}
use Rattle.ad_lex.specs.Lexemes as says
use Rattle.ad_grammar.specs.Shapes.{Text}
use Rattle.ad_grammar.specs.Texts.{Declared}

-- a declaration more in front of those that are taken
abbrev pub taking : Declared → List Declared × Text → List Declared × Text
taking d taken = (d ∷ taken.0, taken.1)

-- what is taken, behind what was taken before
abbrev pub behind : List Declared → List Declared × Text → List Declared × Text
behind before taken = (before ++ taken.0, taken.1)

-- the declaration that six tokens are, if they are one
abbrev pub declaration : Lexeme → Lexeme → Lexeme → Lexeme → Lexeme → Lexeme → Option Declared
declaration (says.Plain word) says.Left (says.Short prefix local) says.Equals (says.Iri iri) says.Right = cond (bytes_eq word (codes "Prefix") && bytes_eq local []) (Some (record { prefix = prefix; iri = iri })) None
declaration _ _ _ _ _ _ = None

-- a declaration, with what is declared behind it; or none, and the whole text behind
abbrev pub begun : Option Declared → List Declared × Text → Text → List Declared × Text
begun (Some d) taken whole = taking d taken
begun None taken whole = ([], whole)

-- what is declared in front, and the text behind it
abbrev pub heads : Text → List Declared × Text
heads (a ∷ b ∷ c ∷ d ∷ e ∷ f ∷ ts) = begun (declaration a b c d e f) (heads ts) (a ∷ b ∷ c ∷ d ∷ e ∷ f ∷ ts)
heads ts = ([], ts)
