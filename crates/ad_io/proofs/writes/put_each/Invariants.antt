use Rattle.std.proofs.Common.{◌≤◌, take}
use Rattle.std.specs.List.{flat_map}
use Rattle.ad_io.specs.Flow.{Gains}
use Rattle.ad_io.proofs.writes.put_each.Given as goal

abbrev pub invariant-loop-piece : goal.invariant-loop-piece
invariant-loop-piece g l = record {
  gained : Gains (g.K.Sink.written l.initial.sink) (g.K.Sink.written l.sink) (flat_map (λ piece. piece.now) (take l.piece-index l.pieces));
  later : g.K.Sink.faults l.initial.sink ≤ g.K.Sink.faults l.sink;
}
