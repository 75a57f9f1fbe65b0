-- What the operands so far and those that are left give together is what all give.
use Rattle.std.proofs.Common.{◌≡◌, drop, map}
use Rattle.ad_locality.specs.Locality as table
use Rattle.ad_local.proofs.OperandLemmas.{one_left}
use Rattle.ad_local.proofs.operands.one_is_whole.Given as goal

abbrev pub invariant-operands : goal.invariant-operands
invariant-operands g l = one_left l.none l.one (map (g.T.Operand.surely_of l.side (g.S.Seen.member l.seen)) (drop l.operand-index l.operands)) ≡ table.one_is_whole (map (g.T.Operand.surely_of l.side (g.S.Seen.member l.seen)) l.operands)
