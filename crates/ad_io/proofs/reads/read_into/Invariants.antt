use Rattle.std.proofs.Common.{◌≤◌, take, vec_len, ◌-◌}
use Rattle.ad_io.specs.Flow.{Loses}
use Rattle.ad_io.proofs.reads.read_into.Given as goal

abbrev pub invariant-loop-filled : goal.invariant-loop-filled
invariant-loop-filled g l = record {
  filled : l.filled ≤ vec_len l.bytes;
  within : vec_len l.bytes ≤ l.most;
  lost : Loses (g.S.Source.left l.initial.source) (g.S.Source.left l.source) (take l.filled l.bytes.items);
  later : g.S.Source.faults l.initial.source ≤ g.S.Source.faults l.source;
}

abbrev pub decreases-loop-filled : goal.decreases-loop-filled
decreases-loop-filled g l = l.most - l.filled
