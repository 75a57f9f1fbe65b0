-- The operations of a batch with their axioms shared.
use Rattle.std.specs.Prelude.{List, map}
use Rattle.std.specs.Arc.{arc_value}
use Rattle.ad_tree.specs.declared.edits.Op.{Op}
use Rattle.ad_apply.specs.declared.steps.Step.{Step}

abbrev pub op_in : Step → Op
op_in step = record { sign = step.sign; noted = arc_value step.noted }

abbrev pub batch_in : List Step → List Op
batch_in steps = map op_in steps
