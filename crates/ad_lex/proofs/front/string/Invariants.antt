-- what was passed, and what stands before the closing quote in the rest, is what stands before it from the start on
use Rattle.std.proofs.Common.{◌≡◌, ◌-◌, ◌≤◌, length, drop, false}
use Rattle.ad_lex.specs.Fronts.{string_len}
use Rattle.ad_lex.proofs.Strings.{plus}
use Rattle.ad_lex.proofs.front.string.Given as goal

abbrev pub invariant-loop-at : goal.invariant-loop-at
invariant-loop-at l = record {
  after : l.from ≤ l.at;
  within : l.at ≤ length l.text;
  passed : plus (l.at - l.from) (string_len l.escaped (drop l.at l.text)) ≡ string_len false (drop l.from l.text);
}

abbrev pub decreases-loop-at : goal.decreases-loop-at
decreases-loop-at l = length l.text - l.at
