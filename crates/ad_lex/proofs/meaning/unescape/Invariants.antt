-- the value so far, and the value of the rest
use Rattle.std.proofs.Common.{◌≡◌, ◌++◌, drop}
use Rattle.ad_lex.specs.Lexemes.{value_from, string_value}
use Rattle.ad_lex.proofs.meaning.unescape.Given as goal

abbrev pub invariant-loop-byte : goal.invariant-loop-byte
invariant-loop-byte l = l.value.items ++ value_from l.held (drop l.byte-index l.inside) ≡ string_value l.inside
