-- The first of the touched symbols were looked at.
use Rattle.std.proofs.Common.{◌≡◌, length}
use Rattle.ad_repair.specs.Touches.{IsSeen}
use Rattle.ad_repair.proofs.foreign.see.Given as goal

abbrev pub invariant-loop-at : goal.invariant-loop-at
invariant-loop-at l = record {
  seen : IsSeen l.touched l.slot l.row l.seen l.at;
  size : length l.seen ≡ length l.fn.seen;
}
