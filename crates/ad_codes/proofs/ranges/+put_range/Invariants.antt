-- The codes of the operands so far were put.
use Rattle.std.proofs.Common.{take}
use Rattle.std.specs.List.{flat_map}
use Rattle.ad_codes.specs.Encoded.{range_code}
use Rattle.ad_codes.specs.Encoding.{Adds}
use Rattle.ad_codes.proofs.ranges.+put_range.Given as goal

abbrev pub invariant-put_ranges-operands : goal.invariant-put_ranges-operands
invariant-put_ranges-operands g l = Adds l.fn.out l.out (flat_map (range_code (g.N.Naming.number_of l.names)) (take l.operand-index l.operands))
