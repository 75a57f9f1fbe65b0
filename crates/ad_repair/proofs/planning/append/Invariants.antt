-- The first of the slots have tasks.
use Rattle.std.proofs.Common.{◌≡◌, ◌++◌, take}
use Rattle.ad_repair.specs.Plans.{tasks_for}
use Rattle.ad_repair.proofs.planning.append.Given as goal

abbrev pub invariant-loop-slot : goal.invariant-loop-slot
invariant-loop-slot l = l.tasks.items ≡ l.fn.tasks.items ++ tasks_for l.fn.kind (take l.slot-index l.slots)
