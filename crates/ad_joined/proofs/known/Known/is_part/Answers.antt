-- The search meets one of those axioms that have the module, on both sides.
use Rattle.std.proofs.Common.{◌≡◌, ◌∙◌, ℕ, Bool, IsTrue, sym, subst}
use Rattle.std.specs.Arc.{arc_value}
use Rattle.ad_base.specs.declared.limits.Side.TheVariants.{Bottom, Top}
use Rattle.ad_bits.specs.Rows.{has}
use Rattle.ad_theory.specs.Module.{IsFixed}
use Rattle.ad_theory.specs.Numbers.{among, logic_of}
use Rattle.ad_joined.specs.Known.{HasFixed}
use Rattle.ad_joined.proofs.known.Known.is_part.Goals as goal

pub meets-requires-2-clause-fixed : goal.meets-requires-2-clause-fixed
meets-requires-2-clause-fixed g c =
    let u = c.args.universe.now in
    let B = logic_of (g.U.Universe.symbols_of u) (g.U.Universe.is_local u Bottom) in
    subst (λ r. HasFixed B (has r) (has c.args.self.now.same)) (sym c.deref-2.ensures) (λ a t. let e = c.requires.known.each a t in (e.0, e.1.bottom))

pub meets-requires-3-clause-fixed : goal.meets-requires-3-clause-fixed
meets-requires-3-clause-fixed g c =
    let u = c.args.universe.now in
    let T = logic_of (g.U.Universe.symbols_of u) (g.U.Universe.is_local u Top) in
    subst (λ r. HasFixed T (has r) (has c.args.self.now.same)) (sym c.deref-3.ensures) (λ a t. let e = c.requires.known.each a t in (e.0, e.1.top))

pub returns-clause-part : goal.returns-clause-part
returns-clause-part g c t =
    let u = c.args.universe.now in
    let symbols = g.U.Universe.symbols_of u in
    let B = logic_of symbols (g.U.Universe.is_local u Bottom) in
    let T = logic_of symbols (g.U.Universe.is_local u Top) in
    let seed = has c.args.seed.now in
    let one = c.meets-2.ensures.some c.if-not-meets-2.false in
    record {
      bottom = subst (λ r. IsFixed B seed (has r)) c.deref-2.ensures (c.meets-2.ensures.fixed c.if-not-meets-2.false);
      top = subst (λ r. IsFixed T seed (has r)) c.deref-3.ensures (c.meets-3.ensures.fixed t);
      of = one.0;
      star = (c.requires.known.each one.0 one.1).1;
    }
