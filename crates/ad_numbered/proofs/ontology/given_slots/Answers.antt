-- One more slot.
use Rattle.std.proofs.Common.{◌∙◌}
use Rattle.ad_numbered.proofs.ListLemmas.{given_more}
use Rattle.ad_numbered.proofs.ontology.given_slots.Goals as goal

pub loop-slot-preserved : goal.loop-slot-preserved
loop-slot-preserved c =
    c.in_ok-push_given.ensures ∙ given_more c.args.slots.now c.loop-slot.slot-index _ c.loop-slot.order.items c.loop-slot.invariant c.loop-slot-test.true
