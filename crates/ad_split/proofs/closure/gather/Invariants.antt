-- The symbols of the slots so far are the members.
use Rattle.std.proofs.Common.{◌≡◌, ◌≤◌, ◌-◌, length}
use Rattle.ad_bits.specs.Rows.{has}
use Rattle.ad_split.specs.Closure.{IsClosureBelow}
use Rattle.ad_split.proofs.closure.gather.Given as goal

abbrev pub invariant-slots : goal.invariant-slots
invariant-slots g l = record {
  from : l.from ≤ length l.slots;
  closure : IsClosureBelow (g.U.Universe.symbols_of l.universe) (has l.slots) l.from (has l.closure);
  size : length l.closure ≡ length l.fn.closure;
}

abbrev pub decreases-slots : goal.decreases-slots
decreases-slots g l = length l.slots - l.from
