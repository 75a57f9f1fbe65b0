-- The live ones of the slots below this one are listed.
use Rattle.ad_decompose.proofs.Listed.{AreListed}
use Rattle.ad_decompose.proofs.order.live_slots.Given as goal

abbrev pub invariant-loop-slot : goal.invariant-loop-slot
invariant-loop-slot g l = AreListed (g.U.Universe.is_live l.universe) l.slot l.order.items
