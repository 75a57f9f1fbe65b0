-- One more axiom gets an entry, and stands nowhere.
use Rattle.std.proofs.Common.{arith, subst}
use Rattle.ad_tree.specs.declared.axioms.Noted.{Noted}
use Rattle.ad_apply.specs.declared.places.Place.TheVariants as places
use Rattle.ad_apply.specs.Places.{place_in}
use Rattle.ad_apply.specs.Working.{Enters}
use Rattle.ad_apply.proofs.WorkingLemmas.{unsettled_absent, named_more}
use Rattle.ad_apply.proofs.working.named.Goals as goal

pub loop-step-preserved : goal.loop-step-preserved
loop-step-preserved c =
    let enters = subst (λ (a : Noted). Enters (place_in c.loop-step.index) (place_in c.put.new.index) a places.Absent) c.deref.ensures c.in_ok-put.ensures in
    (unsettled_absent _ _ _ enters c.loop-step.invariant.0, named_more _ _ c.args.steps.now c.loop-step.step-index c.step-item.result places.Absent (omega arith) c.step-item.is enters c.loop-step.invariant.1)
