-- what the rest is completes what was read
use Rattle.std.proofs.Common.{◌-◌, ◌≤◌, length, vec_len}
use Rattle.ad_lex.proofs.Steps.{Completes, FaultsToo}
use Rattle.ad_lex.proofs.lexer.lex_rest.Given as goal

abbrev pub invariant-rest : goal.invariant-rest
invariant-rest l = record {
  within : l.at ≤ length l.text;
  few : vec_len l.items ≤ l.at;
  lexed : Completes l.text l.from l.at l.items.items;
  faulty : FaultsToo l.text l.from l.at;
}

abbrev pub decreases-rest : goal.decreases-rest
decreases-rest l = length l.text - l.at
