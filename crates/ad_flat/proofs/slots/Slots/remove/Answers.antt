use Rattle.ad_base.specs.declared.limits.Side.TheVariants as sides
use Rattle.ad_flat.proofs.SlotLemmas.{rising_list, rising_globals, freed_indexed, freed_globals, freed_below, freed_covered}
use Rattle.ad_flat.proofs.slots.Slots.remove.Goals as goal

pub leave_each-requires-clause-rising : goal.leave_each-requires-clause-rising
leave_each-requires-clause-rising c = rising_list c.args.self.now.occurrences.items c.args.self.now.entries c.args.self.now.indexed

pub drop_from-requires : goal.drop_from-requires
drop_from-requires c = record { rising = rising_globals c.args.self.now.bottom.items c.args.self.now.entries sides.Bottom c.args.self.now.bottom_globals }

pub drop_from-requires-2 : goal.drop_from-requires-2
drop_from-requires-2 c = record { rising = rising_globals c.args.self.now.top.items c.args.self.now.entries sides.Top c.args.self.now.top_globals }

pub invariant_of-self-clause-below : goal.invariant_of-self-clause-below
invariant_of-self-clause-below c = freed_below c.args.i c.args.self.now.entries c.free.new.self c.free.ensures.freed _ _ c.leave_each.ensures.len c.args.self.now.below

pub invariant_of-self-clause-covered : goal.invariant_of-self-clause-covered
invariant_of-self-clause-covered c = freed_covered c.args.i c.args.self.now.entries c.free.new.self c.free.ensures.freed c.args.self.now.covered

pub invariant_of-self-clause-indexed : goal.invariant_of-self-clause-indexed
invariant_of-self-clause-indexed c =
    freed_indexed c.args.i c.args.self.now.entries c.free.new.self c.free.ensures.freed c.symbols-symbols.result.now c.args.self.now.occurrences.items c.leave_each.new.lists.items
    c.symbols-symbols.ensures c.args.self.now.indexed
    c.leave_each.ensures.changed

pub invariant_of-self-clause-bottom_globals : goal.invariant_of-self-clause-bottom_globals
invariant_of-self-clause-bottom_globals c = freed_globals c.args.i c.args.self.now.entries c.free.new.self c.free.ensures.freed sides.Bottom c.args.self.now.bottom.items c.drop_from.new.list.items c.args.self.now.bottom_globals c.drop_from.ensures.items

pub invariant_of-self-clause-top_globals : goal.invariant_of-self-clause-top_globals
invariant_of-self-clause-top_globals c = freed_globals c.args.i c.args.self.now.entries c.free.new.self c.free.ensures.freed sides.Top c.args.self.now.top.items c.drop_from-2.new.list.items c.args.self.now.top_globals c.drop_from-2.ensures.items
