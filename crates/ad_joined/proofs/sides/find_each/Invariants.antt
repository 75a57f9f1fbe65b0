-- Rows of some slots are found.
use Rattle.std.proofs.Common.{◌≡◌, ◌≤◌, length, ◌-◌}
use Rattle.ad_theory.specs.Numbers.{logic_of}
use Rattle.ad_joined.specs.Ahead.{IsAhead}
use Rattle.ad_joined.proofs.sides.find_each.Given as goal

abbrev pub invariant-steps : goal.invariant-steps
invariant-steps g l = record {
  ahead : IsAhead (logic_of (g.U.Universe.symbols_of l.universe) (g.U.Universe.is_local l.universe l.fn.side)) (g.U.Universe.is_live l.universe)
      (g.U.Universe.slot_count l.universe) (g.U.Universe.symbol_count l.universe) l.slots l.ahead;
  counted : l.fn.tally.tests ≤ l.tally.tests;
  runs : l.tally.runs ≡ l.fn.tally.runs;
}

abbrev pub decreases-steps : goal.decreases-steps
decreases-steps g l = length l.slots - l.at
