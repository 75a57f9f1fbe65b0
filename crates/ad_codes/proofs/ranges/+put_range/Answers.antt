-- Each variant by the equation of its code.
use Rattle.std.proofs.Common.{rules}
use Rattle.ad_cells.specs.declared.cell.Cell.TheVariants as cells
use Rattle.ad_codes.specs.Encoded.{range_code}
use Rattle.ad_codes.proofs.CodeEquations as code
use Rattle.ad_codes.proofs.Putting.{adds_nothing, adds_at, adds_after, adds_counted, adds_code_more, adds_all_codes}
use Rattle.ad_codes.proofs.ranges.+put_range.Goals as goal

pub put_range-returns-in-Named : goal.put_range-returns-in-Named
put_range-returns-in-Named g t c = adds_at (range_code (g.N.Naming.number_of c.args.names.now)) c.in-Named.is (code.range_code-named (g.N.Naming.number_of c.args.names.now) _) c.put_name.ensures

pub put_range-returns-in-And : goal.put_range-returns-in-And
put_range-returns-in-And g t c = adds_at (range_code (g.N.Naming.number_of c.args.names.now)) c.in-And.is (code.range_code-intersection (g.N.Naming.number_of c.args.names.now) _) (search rules)

pub put_range-returns-in-Or : goal.put_range-returns-in-Or
put_range-returns-in-Or g t c = adds_at (range_code (g.N.Naming.number_of c.args.names.now)) c.in-Or.is (code.range_code-union (g.N.Naming.number_of c.args.names.now) _) (search rules)

pub put_range-returns-in-Not : goal.put_range-returns-in-Not
put_range-returns-in-Not g t c = adds_at (range_code (g.N.Naming.number_of c.args.names.now)) c.in-Not.is (code.range_code-complement (g.N.Naming.number_of c.args.names.now) _) (search rules)

pub put_range-returns-in-OneOf : goal.put_range-returns-in-OneOf
put_range-returns-in-OneOf g t c = adds_at (range_code (g.N.Naming.number_of c.args.names.now)) c.in-OneOf.is (code.range_code-one_of (g.N.Naming.number_of c.args.names.now) _) (search rules)

pub put_range-returns-in-Restriction : goal.put_range-returns-in-Restriction
put_range-returns-in-Restriction g t c = adds_at (range_code (g.N.Naming.number_of c.args.names.now)) c.in-Restriction.is (code.range_code-restriction (g.N.Naming.number_of c.args.names.now) _ _) c.put_restricted.ensures

pub put_ranges-operands-init : goal.put_ranges-operands-init
put_ranges-operands-init g t c = adds_nothing c.args.out.now

pub put_ranges-operands-preserved : goal.put_ranges-operands-preserved
put_ranges-operands-preserved g t c = adds_code_more (range_code (g.N.Naming.number_of c.args.names.now)) c.args.operands.now c.operands.operand-index c.operand-item.result c.operands-test.true c.operand-item.is c.operands.invariant c.put_range.ensures

pub put_ranges-returns : goal.put_ranges-returns
put_ranges-returns g t c = adds_all_codes (range_code (g.N.Naming.number_of c.args.names.now)) c.args.operands.now c.operands.operand-index c.operands-test.false c.operands.invariant

pub put_intersection-returns : goal.put_intersection-returns
put_intersection-returns g t c = adds_counted cells.And c.put_ranges.ensures c.count-count.ensures c.put.ensures

pub put_union-returns : goal.put_union-returns
put_union-returns g t c = adds_counted cells.Or c.put_ranges.ensures c.count-count.ensures c.put.ensures

pub put_complement-returns : goal.put_complement-returns
put_complement-returns g t c = adds_after c.put_range.ensures c.put.ensures
