-- One more axiom was looked at.
use Rattle.std.proofs.Common.{◌∙◌, arith}
use Rattle.ad_joined.proofs.meets.look_for.Goals as goal

pub returns-then-look_at-clause-gathered : goal.returns-then-look_at-clause-gathered
returns-then-look_at-clause-gathered g c seed w = c.look_at.ensures.gathered seed (c.loop-slot.invariant.gathered seed w)

pub loop-slot-preserved : goal.loop-slot-preserved
loop-slot-preserved g c =
    let before = c.loop-slot.invariant in
    let here = c.look_at.ensures in
    record {
      waiting = here.waiting;
      gathered = λ seed w. here.gathered seed (before.gathered seed w);
      settled = λ s. here.settled s ∙ before.settled s;
      counted = omega (arith, here.counted, before.counted);
      runs = here.runs ∙ before.runs;
      room = here.room ∙ before.room;
      out = here.out ∙ before.out;
      size = here.reached ∙ before.size;
    }
