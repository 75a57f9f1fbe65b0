-- Names whose prefix is known.
use Rattle.std.specs.Prelude.{◌≡◌, ℕ, List, Some}
use Rattle.std.specs.List.{AllByRecursion}
use Rattle.ad_lex.specs.Lexemes.{Lexeme}
use Rattle.ad_lex.specs.Lexemes as says
use Rattle.ad_grammar.specs.Shapes.{Text}
use Rattle.ad_grammar.specs.Names.{Words}

-- a token whose prefix, if it has one, stands for an IRI
abbrev pub IsKnown : Words → Lexeme → Type 0
IsKnown words (says.Short prefix local) = (iri : List ℕ) × (words prefix ≡ Some iri)
IsKnown words _ = Unit {0}

abbrev pub AreKnown : Words → Text → Type 0
AreKnown words ts = AllByRecursion (IsKnown words) ts

-- The prefixes are known under one meaning; and these tokens spell something under another, if it knows the prefixes too.
abbrev pub Moved : {X : Type 0} → Words → Words → (Words → X → Text → Type 0) → Text → Type 0
Moved {X} words words' Spells ts = AreKnown words ts × (AreKnown words' ts → (y : X) × Spells words' y ts)
