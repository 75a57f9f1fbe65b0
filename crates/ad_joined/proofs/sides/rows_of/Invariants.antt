-- The rows of the slots so far are found.
use Rattle.std.proofs.Common.{◌≡◌, ◌≤◌, ◌+◌, map, take}
use Rattle.std.specs.Arc.{arc_value}
use Rattle.std.specs.List.{AllZip}
use Rattle.ad_theory.specs.Numbers.{logic_of}
use Rattle.ad_joined.specs.Ahead.{IsAhead}
use Rattle.ad_joined.specs.Searched.{IsSideRow}
use Rattle.ad_joined.proofs.sides.rows_of.Given as goal

abbrev pub invariant-loop-at : goal.invariant-loop-at
invariant-loop-at g l = record {
  ahead : IsAhead (logic_of (g.U.Universe.symbols_of l.universe) (g.U.Universe.is_local l.universe l.fn.side)) (g.U.Universe.is_live l.universe)
      (g.U.Universe.slot_count l.universe) (g.U.Universe.symbol_count l.universe) l.slots l.ahead;
  found : AllZip (IsSideRow (logic_of (g.U.Universe.symbols_of l.universe) (g.U.Universe.is_local l.universe l.fn.side)) (g.U.Universe.is_live l.universe)
      (g.U.Universe.slot_count l.universe)) (take l.at l.slots) (map (λ row. arc_value row) l.rows.items);
  counted : l.fn.tally.tests ≤ l.tally.tests;
  runs : l.tally.runs ≡ l.fn.tally.runs + l.at;
}
