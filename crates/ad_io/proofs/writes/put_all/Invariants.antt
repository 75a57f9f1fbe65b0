use Rattle.std.proofs.Common.{◌≤◌, length, take, ◌-◌}
use Rattle.ad_io.specs.Flow.{Gains}
use Rattle.ad_io.proofs.writes.put_all.Given as goal

abbrev pub invariant-loop-written : goal.invariant-loop-written
invariant-loop-written g l = record {
  within : l.written ≤ length l.piece;
  gained : Gains (g.K.Sink.written l.initial.sink) (g.K.Sink.written l.sink) (take l.written l.piece);
  later : g.K.Sink.faults l.initial.sink ≤ g.K.Sink.faults l.sink;
}

abbrev pub decreases-loop-written : goal.decreases-loop-written
decreases-loop-written g l = length l.piece - l.written
