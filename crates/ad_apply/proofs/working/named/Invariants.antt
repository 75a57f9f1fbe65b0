-- The axioms of the operations so far have entries, and none stands anywhere.
use Rattle.ad_apply.specs.Places.{place_in}
use Rattle.ad_apply.specs.Working.{AreNamed, IsUnsettled}
use Rattle.ad_apply.proofs.working.named.Given as goal

abbrev pub invariant-loop-step : goal.invariant-loop-step
invariant-loop-step l = IsUnsettled (place_in l.index) × AreNamed (place_in l.index) l.steps l.step-index
