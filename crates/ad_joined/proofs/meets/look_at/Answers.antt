-- An axiom that is needed is met, or is taken.
use Rattle.std.proofs.Common.{◌<◌, ◌&&◌, ◌∙◌, not, length, IsTrue, IsFalse, sym, arith}
use Rattle.ad_bits.specs.Rows.{has}
use Rattle.ad_theory.proofs.Members.{and_left, and_right, not_true}
use Rattle.ad_extract.proofs.SearchLemmas.{takes}
use Rattle.ad_joined.proofs.meets.look_at.Goals as goal

pub returns-then-has-clause-met : goal.returns-then-has-clause-met
returns-then-has-clause-met g c t =
    let taken = has c.args.out.now c.args.slot in
    let loose = g.U.Universe.is_local c.args.universe.now c.args.side (has c.args.reached.now) c.args.slot in
    let needed : IsTrue (not taken && not loose) = sym c.is_needed.ensures.needed ∙ c.if-not-is_needed.false in
    (c.args.slot, sym c.has-2.ensures ∙ c.if-has.true, not_true loose (and_right (not taken) (not loose) needed))

pub returns-clause-gathered : goal.returns-clause-gathered
returns-clause-gathered g c seed w =
    let u = c.args.universe.now in
    let local = g.U.Universe.is_local u c.args.side in
    let slot = c.args.slot in
    let taken = has c.args.out.now slot in
    let loose = local (has c.args.reached.now) slot in
    let needed : IsTrue (not taken && not loose) = sym c.is_needed.ensures.needed ∙ c.if-not-is_needed.false in
    let below : slot < length c.args.out.now = omega (arith, g.met.U.Universe.live_below u slot c.requires.live, c.requires.out) in
    takes (g.U.Universe.symbols_of u) local (g.met.U.Universe.antitone u c.args.side) c.args.out.now c.take.new.out slot below
    (sym c.has.ensures ∙ c.if-not-has.false) (has c.args.reached.now) (λ e t. t)
    (not_true loose (and_right (not taken) (not loose) needed)) c.take.ensures.taken c.take.ensures.also w
