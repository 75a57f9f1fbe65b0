-- What was found, joined with what the operands that are left give, is what all give.
use Rattle.std.proofs.Common.{◌≡◌, drop, map}
use Rattle.ad_locality.specs.Locality as table
use Rattle.ad_local.specs.Pairs.{both_of, either_of}
use Rattle.ad_local.proofs.classes.+class_surely.Given as goal

abbrev pub invariant-intersection-operands : goal.invariant-intersection-operands
invariant-intersection-operands g l = both_of l.found (table.intersection (map (table.class_surely l.side (g.S.Seen.member l.seen)) (drop l.operand-index l.operands))) ≡ table.intersection (map (table.class_surely l.side (g.S.Seen.member l.seen)) l.operands)

abbrev pub invariant-union-operands : goal.invariant-union-operands
invariant-union-operands g l = either_of l.found (table.union (map (table.class_surely l.side (g.S.Seen.member l.seen)) (drop l.operand-index l.operands))) ≡ table.union (map (table.class_surely l.side (g.S.Seen.member l.seen)) l.operands)
