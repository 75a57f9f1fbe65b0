-- The operations so far, each with its axiom shared.
use Rattle.std.proofs.Common.{◌≡◌, take}
use Rattle.ad_apply.specs.Steps.{batch_in}
use Rattle.ad_apply.proofs.steps.steps_of.Given as goal

abbrev pub invariant-loop-op : goal.invariant-loop-op
invariant-loop-op l = batch_in l.steps.items ≡ take l.op-index l.ops
