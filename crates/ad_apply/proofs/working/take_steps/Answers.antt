-- One more operation is done; at the end all are.
use Rattle.std.proofs.Common.{arith}
use Rattle.ad_apply.proofs.StepLemmas.{Going-more, Going-end}
use Rattle.ad_apply.proofs.working.take_steps.Goals as goal

pub loop-step-preserved : goal.loop-step-preserved
loop-step-preserved c =
    Going-more c.args.working.now c.loop-step.working c.take_step.new.working c.args.steps.now c.loop-step.step-index c.step-item.result (omega arith) c.step-item.is c.in_ok-take_step.ensures c.loop-step.invariant

pub returns-clause-comes_to : goal.returns-clause-comes_to
returns-clause-comes_to c = λ old ontology comes.
    (Going-end c.args.working.now c.loop-step.working c.args.steps.now c.loop-step.step-index (omega arith) c.loop-step.invariant old ontology comes).0

pub returns-clause-counts : goal.returns-clause-counts
returns-clause-counts c = λ old ontology comes.
    (Going-end c.args.working.now c.loop-step.working c.args.steps.now c.loop-step.step-index (omega arith) c.loop-step.invariant old ontology comes).1
