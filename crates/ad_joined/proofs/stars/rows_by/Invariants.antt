-- The rows of the slots so far are found.
use Rattle.std.proofs.Common.{◌≡◌, ◌≤◌, ◌+◌, map, take}
use Rattle.std.specs.Arc.{arc_value}
use Rattle.std.specs.List.{AllZip}
use Rattle.ad_base.specs.declared.limits.Kind.TheVariants.{Star}
use Rattle.ad_groups.specs.GenuineRows.{IsGenuineRow}
use Rattle.ad_joined.specs.Stars.{AreStars}
use Rattle.ad_joined.proofs.stars.rows_by.Given as goal

abbrev pub invariant-loop-at : goal.invariant-loop-at
invariant-loop-at g l = record {
  found : AllZip (IsGenuineRow (g.U.Universe.symbols_of l.universe) (g.U.Universe.is_local l.universe)
      (g.U.Universe.is_live l.universe) (g.U.Universe.slot_count l.universe) Star) (take l.at l.slots) (map (λ row. arc_value row) l.rows.items);
  stars : AreStars (g.U.Universe.symbols_of l.universe) (g.U.Universe.is_local l.universe) (g.U.Universe.is_live l.universe)
      (g.U.Universe.slot_count l.universe) (g.U.Universe.symbol_count l.universe) l.stars;
  counted : l.fn.tally.tests ≤ l.tally.tests;
  runs : l.tally.runs ≡ l.fn.tally.runs + l.at;
}
