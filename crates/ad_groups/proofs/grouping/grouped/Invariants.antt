-- The slots below this one are grouped.
use Rattle.ad_bits.specs.Rows.{has}
use Rattle.ad_groups.specs.Keys.{value_at}
use Rattle.ad_groups.specs.Groups.{AreGroups, AreKnown}
use Rattle.ad_groups.proofs.grouping.grouped.Given as goal

abbrev pub invariant-loop-slot : goal.invariant-loop-slot
invariant-loop-slot g l = record {
  groups : AreGroups (g.U.Universe.symbols_of l.universe) (has l.wanted) l.slot l.groups.items l.firsts.items;
  known : AreKnown (g.U.Universe.symbols_of l.universe) (value_at l.known) l.firsts.items;
}
