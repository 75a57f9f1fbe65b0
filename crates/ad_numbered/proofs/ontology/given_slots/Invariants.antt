-- The slots so far.
use Rattle.std.proofs.Common.{◌≡◌, take}
use Rattle.ad_numbered.specs.Numbered.{given}
use Rattle.ad_numbered.proofs.ontology.given_slots.Given as goal

abbrev pub invariant-loop-slot : goal.invariant-loop-slot
invariant-loop-slot l = l.order.items ≡ given (take l.slot-index l.slots)
