-- The operations so far are done.
use Rattle.ad_apply.proofs.StepLemmas.{Going}
use Rattle.ad_apply.proofs.working.take_steps.Given as goal

abbrev pub invariant-loop-step : goal.invariant-loop-step
invariant-loop-step l = Going l.initial.working l.working l.steps l.step-index
