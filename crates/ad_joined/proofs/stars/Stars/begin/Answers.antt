-- The star module is within both modules of the slot.
use Rattle.std.proofs.Common.{◌≡◌, ℕ, sym, subst, ap, ◌∙◌, IsTrue}
use Rattle.ad_base.specs.declared.limits.Side.TheVariants.{Bottom, Top}
use Rattle.ad_bits.specs.Rows.{has}
use Rattle.ad_theory.specs.Alternation.{IsAboveStar}
use Rattle.ad_theory.specs.Numbers.{among, logic_of}
use Rattle.ad_joined.proofs.CommonLemmas.{above_common}
use Rattle.ad_joined.proofs.stars.Stars.begin.Goals as goal

pub returns-clause-above : goal.returns-clause-above
returns-clause-above g c =
    let u = c.args.universe.now in
    let symbols = g.U.Universe.symbols_of u in
    let slot = c.args.slot in
    let B = logic_of symbols (g.U.Universe.is_local u Bottom) in
    let T = logic_of symbols (g.U.Universe.is_local u Top) in
    let each : (s : ℕ) → has c.fill.new.row s ≡ among (symbols slot) s = λ s. c.fill.ensures.members s ∙ ap (λ l. among l s) c.signature.ensures in
    let seed : among (symbols slot) ≡ has c.fill.new.row = λ i s. sym (each s) i in
    subst (λ f. IsAboveStar B T f (λ i. IsTrue (g.U.Universe.is_live u i)) (has c.meet.new.both)) seed
    (above_common {B = B} {T = T} c.requires.bottom.found.1 c.requires.top.found.1 c.meet.ensures.members)
