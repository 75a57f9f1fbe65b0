use Rattle.std.proofs.Common.{◌≡◌, ◌≤◌, take, vec_len, ◌-◌}
use Rattle.ad_io.specs.Flow.{Loses}
use Rattle.ad_items.proofs.payload.fill.Given as goal

abbrev pub invariant-loop-filled : goal.invariant-loop-filled
invariant-loop-filled g l = record {
  filled : l.filled ≤ vec_len l.buffer;
  size : vec_len l.buffer ≡ vec_len l.initial.buffer;
  lost : Loses (g.S.Source.left l.initial.source) (g.S.Source.left l.source) (take l.filled l.buffer.items);
  later : g.S.Source.faults l.initial.source ≤ g.S.Source.faults l.source;
}

abbrev pub decreases-loop-filled : goal.decreases-loop-filled
decreases-loop-filled g l = vec_len l.buffer - l.filled
