-- An axiom that is needed and has a module that was found before, or that is taken.
use Rattle.std.proofs.Common.{◌<◌, ◌&&◌, not, IsTrue, IsFalse, length, inl, sym, ap, ◌∙◌, arith}
use Rattle.ad_bits.specs.Rows.{has, member_count}
use Rattle.ad_bits.proofs.Rows.{member_count-set}
use Rattle.ad_theory.proofs.Members.{and_left, and_right, not_true}
use Rattle.ad_joined.proofs.look.look_at.Goals as goal

pub returns-in-Some-clause-joinable : goal.returns-in-Some-clause-joinable
returns-in-Some-clause-joinable g c =
    let u = c.args.universe.now in
    let taken = has c.args.out.now c.args.slot in
    let loose = g.U.Universe.is_local u c.args.side (has c.args.reached.now) c.args.slot in
    let needed : IsTrue (not taken && not loose) = sym c.is_needed.ensures.needed ∙ c.if-not-is_needed.false in
    record {
      slot = c.args.slot;
      is_live = c.requires.live;
      new = not_true taken (and_left (not taken) (not loose) needed);
      needed = not_true loose (and_right (not taken) (not loose) needed);
      searched = c.requires.wholes c.args.slot c.in-Some.whole.now c.in-Some.ensures;
    }

pub returns-clause-moved : goal.returns-clause-moved
returns-clause-moved g c =
    let u = c.args.universe.now in
    let taken = has c.args.out.now c.args.slot in
    let loose = g.U.Universe.is_local u c.args.side (has c.args.reached.now) c.args.slot in
    let needed : IsTrue (not taken && not loose) = sym c.is_needed.ensures.needed ∙ c.if-not-is_needed.false in
    let new : IsFalse taken = not_true taken (and_left (not taken) (not loose) needed) in
    let below : c.args.slot < length c.args.out.now = omega (arith, g.met.U.Universe.live_below u c.args.slot c.requires.live, c.requires.out) in
    let count = member_count-set c.args.out.now c.args.slot below new in
    let row = ap member_count c.take.ensures.taken in
    let more : member_count c.args.out.now < member_count c.take.new.out = omega (arith, count, row) in
    inl more
