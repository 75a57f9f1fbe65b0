use Rattle.std.proofs.Common.{◌≡◌, ◌≤◌, length, drop}
use Rattle.ad_lex.specs.Lexemes.{lexemes}
use Rattle.ad_grammar.specs.Texts.{in_force}
use Rattle.ad_prefixes.specs.Declarations.{declarations}
use Rattle.ad_build.specs.Reads.{reads}
use Rattle.ad_build.proofs.reads.reads.Given as goal

abbrev pub invariant-tokens : goal.invariant-tokens
invariant-tokens l = (l.items ≡ reads (in_force (declarations l.prefixes)) (lexemes l.text (drop l.at l.tokens))) × (l.at ≤ length l.tokens) × (l.from ≤ l.at)

abbrev pub decreases-tokens : goal.decreases-tokens
decreases-tokens l = l.at
