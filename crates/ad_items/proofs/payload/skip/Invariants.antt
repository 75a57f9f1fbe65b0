use Rattle.std.proofs.Common.{◌≤◌, ◌-◌}
use Rattle.ad_io.specs.Flow.{LosesExactly}
use Rattle.ad_items.proofs.payload.skip.Given as goal

abbrev pub invariant-loop-left : goal.invariant-loop-left
invariant-loop-left g l = record {
  within : l.left ≤ l.size;
  lost : LosesExactly (g.S.Source.left l.initial.source) (g.S.Source.left l.source) (l.size - l.left);
  later : g.S.Source.faults l.initial.source ≤ g.S.Source.faults l.source;
}

abbrev pub decreases-loop-left : goal.decreases-loop-left
decreases-loop-left g l = l.left
