-- Once an operand was met that isn't surely empty, all that are left have to be.
use Rattle.std.proofs.Common.{◌≡◌, drop, map}
use Rattle.ad_locality.specs.Locality as table
use Rattle.ad_local.proofs.OperandLemmas.{disjoint_left}
use Rattle.ad_local.proofs.operands.are_disjoint.Given as goal

abbrev pub invariant-operands : goal.invariant-operands
invariant-operands g l = disjoint_left l.met (map (g.T.Operand.surely_of l.side (g.S.Seen.member l.seen)) (drop l.operand-index l.operands)) ≡ table.are_disjoint (map (g.T.Operand.surely_of l.side (g.S.Seen.member l.seen)) l.operands)
