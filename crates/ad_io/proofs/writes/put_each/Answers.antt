-- A piece that stops leaves a front of them all.
use Rattle.std.proofs.Common.{arith}
use Rattle.ad_io.proofs.FlowLemmas.{stops_at_piece}
use Rattle.ad_io.proofs.writes.put_each.Goals as goal

pub returns-in-Failed-clause-bytes : goal.returns-in-Failed-clause-bytes
returns-in-Failed-clause-bytes g c =
    stops_at_piece _ _ _ c.args.pieces.now c.loop-piece.piece-index _ (omega arith) c.loop-piece.invariant.gained c.in-Failed.ensures.bytes
