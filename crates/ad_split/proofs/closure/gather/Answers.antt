-- The symbols of one more slot are members.
use Rattle.std.proofs.Common.{◌<◌, length, arith, ◌∙◌, subst, IsTrue}
use Rattle.ad_bits.specs.Rows.{has}
use Rattle.ad_bits.proofs.Rows.{within_size}
use Rattle.ad_theory.specs.Numbers.{among}
use Rattle.ad_theory.specs.Sweep.{HasAlso}
use Rattle.ad_split.proofs.ClosureLemmas.{no_slots, one_slot, all_slots}
use Rattle.ad_split.proofs.closure.gather.Goals as goal

pub overflow_add-from : goal.overflow_add-from
overflow_add-from g c =
    let below : c.in-Some.slot < length c.args.slots.now = within_size c.args.slots.now c.in-Some.slot c.in-Some.ensures.some.member in
    omega (arith, below)

pub signature-requires : goal.signature-requires
signature-requires g c = g.met.U.Universe.live_below c.args.universe.now c.in-Some.slot (c.requires.live c.in-Some.slot c.in-Some.ensures.some.member)

pub mark-requires : goal.mark-requires
mark-requires g c = λ s t.
    let live = c.requires.live c.in-Some.slot c.in-Some.ensures.some.member in
    let below : s < g.U.Universe.symbol_count c.args.universe.now =
    g.met.U.Universe.symbols_below c.args.universe.now c.in-Some.slot s live (subst (λ l. IsTrue (among l s)) c.signature.ensures t) in
    omega (arith, below, c.slots.invariant.size, c.requires.room)

pub slots-init : goal.slots-init
slots-init g c = record {
  from = omega arith;
  closure = no_slots (g.U.Universe.symbols_of c.args.universe.now) c.args.slots.now (has c.clear.new.self) c.clear.ensures.empty;
  size = c.clear.ensures.size;
}

pub slots-preserved : goal.slots-preserved
slots-preserved g c = record {
  from = (let below : c.in-Some.slot < length c.args.slots.now = within_size c.args.slots.now c.in-Some.slot c.in-Some.ensures.some.member in omega arith);
  closure = one_slot (g.U.Universe.symbols_of c.args.universe.now) c.args.slots.now c.slots.from c.in-Some.slot (has c.slots.closure) (has c.mark.new.closure)
      c.in-Some.ensures.some c.slots.invariant.closure
      (subst (λ l. HasAlso (has c.slots.closure) (among l) (has c.mark.new.closure)) c.signature.ensures c.mark.ensures.also);
  size = c.mark.ensures.size ∙ c.slots.invariant.size;
}

pub returns-clause-closure : goal.returns-clause-closure
returns-clause-closure g c = all_slots (g.U.Universe.symbols_of c.args.universe.now) c.args.slots.now c.slots.from (has c.slots.closure) c.in_default.ensures.none c.slots.invariant.closure
