-- what was passed, and what passes in the rest, is what passes from the start on
use Rattle.std.proofs.Common.{◌≡◌, ◌+◌, ◌-◌, ◌≤◌, length, drop}
use Rattle.std.specs.List.{prefix_len}
use Rattle.ad_lex.specs.Characters.{goes_on}
use Rattle.ad_lex.proofs.front.comment_len.Given as goal

abbrev pub invariant-loop-at : goal.invariant-loop-at
invariant-loop-at l = record {
  after : l.from ≤ l.at;
  within : l.at ≤ length l.text;
  passed : (l.at - l.from) + prefix_len goes_on (drop l.at l.text) ≡ prefix_len goes_on (drop l.from l.text);
}

abbrev pub decreases-loop-at : goal.decreases-loop-at
decreases-loop-at l = length l.text - l.at
