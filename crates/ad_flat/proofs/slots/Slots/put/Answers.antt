use Rattle.std.proofs.Common.{Some, IsTrue, IsFalse, sym, ap, ◌∙◌, subst, arith}
use Rattle.ad_base.specs.declared.limits.Side.TheVariants as sides
use Rattle.ad_theory.specs.Numbers.{among}
use Rattle.ad_slots.specs.Places.{is_held, symbols_at, IsReplaced}
use Rattle.ad_flat.proofs.SlotLemmas.{rising_list, rising_globals, put_indexed, put_globals, put_below, put_covered}
use Rattle.ad_flat.proofs.slots.Slots.put.Goals as goal

replaced : (c : goal.After-unset) → IsReplaced c.args.i (Some c.args.slot) c.reserve.new.self.entries c.hold.new.self
replaced c = subst (λ h. IsReplaced c.args.i (Some h) c.reserve.new.self.entries c.hold.new.self) c.in_ok-entry.ensures c.in_ok-hold.ensures.replaced

vacant : (c : goal.After-unset) → IsFalse (is_held c.reserve.new.self.entries c.args.i)
vacant c = ap (λ es. is_held es c.args.i) c.in_ok-reserve.ensures.entries ∙ c.requires.vacant

pub enter_each-requires-clause-rising : goal.enter_each-requires-clause-rising
enter_each-requires-clause-rising c = rising_list c.reserve.new.self.occurrences.items c.reserve.new.self.entries c.reserve.new.self.indexed

pub enter_if-requires-clause-rising : goal.enter_if-requires-clause-rising
enter_if-requires-clause-rising c = rising_globals c.reserve.new.self.bottom.items c.reserve.new.self.entries sides.Bottom c.reserve.new.self.bottom_globals

pub enter_if-requires-2-clause-rising : goal.enter_if-requires-2-clause-rising
enter_if-requires-2-clause-rising c = rising_globals c.reserve.new.self.top.items c.reserve.new.self.entries sides.Top c.reserve.new.self.top_globals

pub invariant_of-self-2-clause-within : goal.invariant_of-self-2-clause-within
invariant_of-self-2-clause-within c = c.in_ok-hold.ensures.len c.reserve.new.self.most (omega (arith, c.requires.within, c.in_ok-reserve.ensures.most)) c.reserve.new.self.within

pub invariant_of-self-2-clause-below : goal.invariant_of-self-2-clause-below
invariant_of-self-2-clause-below c = put_below c.args.i c.args.slot c.reserve.new.self.entries c.hold.new.self
    (replaced c) (vacant c) c.args.slot.symbols _ _ c.enter_each.ensures.len c.reserve.new.self.below
    (λ s t. c.in_ok-reserve.ensures.lists s (subst (λ xs. IsTrue (among xs s)) (sym c.symbols.ensures) t))

pub invariant_of-self-2-clause-covered : goal.invariant_of-self-2-clause-covered
invariant_of-self-2-clause-covered c = put_covered c.args.i c.args.slot c.reserve.new.self.entries c.hold.new.self
    (replaced c) (vacant c) c.reserve.new.self.covered c.requires.covered

pub invariant_of-self-2-clause-indexed : goal.invariant_of-self-2-clause-indexed
invariant_of-self-2-clause-indexed c = put_indexed c.args.i c.args.slot c.reserve.new.self.entries c.hold.new.self
    (replaced c) (vacant c) c.symbols-symbols.result.now c.reserve.new.self.occurrences.items c.enter_each.new.lists.items
    (c.symbols-symbols.ensures ∙ ap symbols_at (replaced c).here) c.reserve.new.self.indexed
    c.enter_each.ensures.changed

pub invariant_of-self-2-clause-bottom_globals : goal.invariant_of-self-2-clause-bottom_globals
invariant_of-self-2-clause-bottom_globals c = put_globals c.args.i c.args.slot c.reserve.new.self.entries c.hold.new.self
    (replaced c) (vacant c) sides.Bottom c.args.is_bottom_global c.reserve.new.self.bottom.items c.enter_if.new.list.items
    c.requires.bottom c.reserve.new.self.bottom_globals c.enter_if.ensures.present c.enter_if.ensures.absent

pub invariant_of-self-2-clause-top_globals : goal.invariant_of-self-2-clause-top_globals
invariant_of-self-2-clause-top_globals c = put_globals c.args.i c.args.slot c.reserve.new.self.entries c.hold.new.self
    (replaced c) (vacant c) sides.Top c.args.is_top_global c.reserve.new.self.top.items c.enter_if-2.new.list.items
    c.requires.top c.reserve.new.self.top_globals c.enter_if-2.ensures.present c.enter_if-2.ensures.absent
