-- Each of the slots is live, and so a slot.
use Rattle.ad_repair.proofs.ListLemmas.{among_at}
use Rattle.ad_repair.proofs.touched.symbols_of.Goals as goal

pub signature-requires : goal.signature-requires
signature-requires g c = g.met.U.Universe.live_below c.args.universe.now _ (c.requires _ (among_at c.args.slots.now c.loop-slot.slot-index c.loop-slot-test.true))
