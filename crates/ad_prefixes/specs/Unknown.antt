-- Names whose prefix isn't known.
use Rattle.std.specs.Prelude.{Bool, false, is_none}
use Rattle.ad_lex.specs.Lexemes.{Lexeme}
use Rattle.ad_lex.specs.Lexemes as says
use Rattle.ad_grammar.specs.Names.{Words}

-- a name whose prefix isn't known
abbrev pub is_unknown : Words → Lexeme → Bool
is_unknown words (says.Short prefix local) = is_none (words prefix)
is_unknown words _ = false
