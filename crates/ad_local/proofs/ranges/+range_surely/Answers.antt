-- One operand more.
use Rattle.std.proofs.Common.{◌∙◌}
use Rattle.ad_locality.specs.Locality as table
use Rattle.ad_local.proofs.OperandLemmas.{intersection_more, union_more}
use Rattle.ad_local.proofs.ranges.+range_surely.Goals as goal

pub intersection-operands-preserved : goal.intersection-operands-preserved
intersection-operands-preserved g t c =
    rw (c.both-found.ensures, c.range_surely.ensures)
    (intersection_more (table.range_surely c.args.side (g.S.Seen.member c.args.seen.now)) c.operands.found c.args.operands.now c.operands.operand-index c.operand-item.result c.operands-test.true c.operand-item.is ∙ c.operands.invariant)

pub union-operands-preserved : goal.union-operands-preserved
union-operands-preserved g t c =
    rw (c.either-found.ensures, c.range_surely.ensures)
    (union_more (table.range_surely c.args.side (g.S.Seen.member c.args.seen.now)) c.operands.found c.args.operands.now c.operands.operand-index c.operand-item.result c.operands-test.true c.operand-item.is ∙ c.operands.invariant)
