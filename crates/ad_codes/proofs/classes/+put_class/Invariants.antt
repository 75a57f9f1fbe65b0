-- The codes of the operands so far were put.
use Rattle.std.proofs.Common.{take}
use Rattle.std.specs.List.{flat_map}
use Rattle.ad_codes.specs.Encoded.{class_code}
use Rattle.ad_codes.specs.Encoding.{Adds}
use Rattle.ad_codes.proofs.classes.+put_class.Given as goal

abbrev pub invariant-put_classes-operands : goal.invariant-put_classes-operands
invariant-put_classes-operands g l = Adds l.fn.out l.out (flat_map (class_code (g.N.Naming.number_of l.names)) (take l.operand-index l.operands))
