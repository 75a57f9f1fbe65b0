-- Each of the slots is live, and so a slot.
use Rattle.std.proofs.Common.{get_or}
use Rattle.ad_repair.proofs.ListLemmas.{among_at}
use Rattle.ad_repair.proofs.foreign.finds_foreign.Goals as goal

pub local-requires-clause-slot : goal.local-requires-clause-slot
local-requires-clause-slot g c =
    let slot = get_or c.args.slots.now c.loop-slot.slot-index 0 in
    g.met.U.Universe.live_below c.args.universe.now slot (c.requires.live slot (among_at c.args.slots.now c.loop-slot.slot-index c.loop-slot-test.true))
