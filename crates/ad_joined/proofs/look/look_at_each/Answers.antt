-- One more axiom was looked at.
use Rattle.std.proofs.Common.{◌∙◌, IsTrue, inl, inr, sym, subst, get_or, arith}
use Rattle.ad_bits.specs.Rows.{has}
use Rattle.ad_extract.specs.Waiting.{settled}
use Rattle.ad_extract.proofs.WaitingLemmas.{among_more}
use Rattle.ad_extract.proofs.SearchLemmas.{settled_local}
use Rattle.ad_joined.proofs.Joins.{moved_more}
use Rattle.ad_joined.proofs.look.look_at_each.Goals as goal

pub returns-in-Some-clause-gathered : goal.returns-in-Some-clause-gathered
returns-in-Some-clause-gathered g c seed w = c.look_at.ensures.gathered seed (c.loop-slot.invariant.gathered seed w)

pub loop-slot-preserved : goal.loop-slot-preserved
loop-slot-preserved g c =
    let u = c.args.universe.now in
    let local = g.U.Universe.is_local u c.args.side in
    let slot = get_or c.args.slots.now c.loop-slot.slot-index 0 in
    let before = c.loop-slot.invariant in
    let here = c.look_at.ensures in
    record {
      waiting = here.waiting;
      gathered = λ seed w. here.gathered seed (before.gathered seed w);
      kept = λ i t. here.kept i (before.kept i t);
      looked = λ i a. elim ((among_more c.args.slots.now c.loop-slot.slot-index c.loop-slot-test.true i).0 a) [
        | inl t ↦ elim (before.looked i t) [ inl o ↦ inl (here.kept i o) | inr h ↦ inr h ]
        | inr q ↦ elim c.in_default.ensures.looked [
          | inl o ↦ inl (subst (λ z. IsTrue (has c.look_at.new.out z)) (sym q) o)
          | inr h ↦ inr (subst (λ z. IsTrue (local (settled c.args.pending.now.items c.args.reached.now) z)) (sym q)
              (settled_local (g.U.Universe.symbols_of u) local (g.met.U.Universe.antitone u c.args.side)
              (settled c.args.pending.now.items c.args.reached.now) (settled c.loop-slot.pending.items c.loop-slot.reached) slot (λ e t. before.settled e ∙ t) h))
        ]
      ];
      settled = λ s. here.settled s ∙ before.settled s;
      moved = moved_more c.args.out.now c.loop-slot.out c.look_at.new.out c.args.pending.now.items c.loop-slot.pending.items c.look_at.new.pending.items before.moved here.moved;
      counted = omega (arith, here.counted, before.counted);
      runs = here.runs ∙ before.runs;
      room = here.room ∙ before.room;
      out = here.out ∙ before.out;
      size = here.reached ∙ before.size;
    }
