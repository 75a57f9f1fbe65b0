use Rattle.std.proofs.Common.{◌≡◌, ◌-◌, ◌≤◌, length, drop, find}
use Rattle.ad_lex.specs.Lexemes.{lexeme}
use Rattle.ad_grammar.specs.Texts.{in_force}
use Rattle.ad_prefixes.specs.Declarations.{declarations}
use Rattle.ad_prefixes.specs.Unknown.{is_unknown}
use Rattle.ad_prefixes.proofs.unknown.first_unknown.Given as goal

abbrev pub invariant-tokens : goal.invariant-tokens
invariant-tokens l = (find (λ token. is_unknown (in_force (declarations l.prefixes)) (lexeme l.text token)) (drop l.at l.tokens) ≡ find (λ token. is_unknown (in_force (declarations l.prefixes)) (lexeme l.text token)) (drop l.from l.tokens)) × (l.at ≤ length l.tokens)

abbrev pub decreases-tokens : goal.decreases-tokens
decreases-tokens l = length l.tokens - l.at
