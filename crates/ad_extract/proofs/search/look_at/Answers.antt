-- Where it is needed, the axiom is taken; else it is taken already, or local for what was reached.
use Rattle.std.proofs.Common.{◌<◌, ◌&&◌, ◌∙◌, not, length, IsTrue, IsFalse, inl, inr, refl, sym, subst, arith}
use Rattle.ad_bits.specs.Rows.{has}
use Rattle.ad_theory.proofs.Members.{either, not_both, and_intro, and_left, and_right, not_true, false_not}
use Rattle.ad_extract.specs.Waiting.{settled}
use Rattle.ad_extract.proofs.SearchLemmas.{takes, settled_local}
use Rattle.ad_extract.proofs.WaitingLemmas.{set_members, settled_reached}
use Rattle.ad_extract.proofs.search.look_at.Goals as goal

pub returns-then-is_needed-clause-gathered : goal.returns-then-is_needed-clause-gathered
returns-then-is_needed-clause-gathered g c seed w =
    let u = c.args.universe.now in
    let local = g.U.Universe.is_local u c.args.side in
    let slot = c.args.slot in
    let here = has c.args.within.now slot in
    let taken = has c.args.out.now slot in
    let loose = local (has c.args.reached.now) slot in
    let needed : IsTrue (here && (not taken && not loose)) = sym c.is_needed.ensures.needed ∙ c.if-is_needed.true in
    let below : slot < length c.args.out.now = omega (arith, g.met.U.Universe.live_below u slot c.requires.live, c.requires.out) in
    takes (g.U.Universe.symbols_of u) local (g.met.U.Universe.antitone u c.args.side) c.args.out.now c.take.new.out slot below
    (c.requires.live, and_left here (not taken && not loose) needed) (has c.args.reached.now) (λ e t. t)
    (not_true loose (and_right (not taken) (not loose) (and_right here (not taken && not loose) needed))) c.take.ensures.taken c.take.ensures.also w

pub returns-then-is_needed-clause-kept : goal.returns-then-is_needed-clause-kept
returns-then-is_needed-clause-kept g c i t =
    let slot = c.args.slot in
    let below : slot < length c.args.out.now = omega (arith, g.met.U.Universe.live_below c.args.universe.now slot c.requires.live, c.requires.out) in
    subst (λ row. IsTrue (has row i)) (sym c.take.ensures.taken) ((set_members c.args.out.now slot below i).1 (inl t))

pub returns-then-is_needed-clause-looked : goal.returns-then-is_needed-clause-looked
returns-then-is_needed-clause-looked g c w =
    let slot = c.args.slot in
    let below : slot < length c.args.out.now = omega (arith, g.met.U.Universe.live_below c.args.universe.now slot c.requires.live, c.requires.out) in
    inl (subst (λ row. IsTrue (has row slot)) (sym c.take.ensures.taken) ((set_members c.args.out.now slot below slot).1 (inr refl)))

pub returns-else-is_needed-clause-looked : goal.returns-else-is_needed-clause-looked
returns-else-is_needed-clause-looked g c w =
    let u = c.args.universe.now in
    let local = g.U.Universe.is_local u c.args.side in
    let slot = c.args.slot in
    let here = has c.args.within.now slot in
    let taken = has c.args.out.now slot in
    let loose = local (has c.args.reached.now) slot in
    let spared : IsFalse (here && (not taken && not loose)) = sym c.is_needed.ensures.needed ∙ c.if-is_needed.false in
    elim (either taken) [
      | inl t ↦ inl t
      | inr f ↦ elim (either loose) [
        | inl l ↦ inr (settled_local (g.U.Universe.symbols_of u) local (g.met.U.Universe.antitone u c.args.side) (settled c.args.pending.now.items c.args.reached.now) (has c.args.reached.now) slot
            (λ e t. settled_reached c.args.pending.now.items c.args.reached.now e t) l)
        | inr n ↦ absurd (not_both (and_intro here (not taken && not loose) w (and_intro (not taken) (not loose) (false_not taken f) (false_not loose n))) spared)
      ]
    ]

pub returns-else-is_needed-clause-gathered : goal.returns-else-is_needed-clause-gathered
returns-else-is_needed-clause-gathered g c seed w = w
