-- The half looks among all numbers, so among all live slots.
use Rattle.std.proofs.Common.{ℕ, IsTrue, arith, subst, sym}
use Rattle.ad_base.specs.declared.limits.Side.TheVariants.{Bottom, Top}
use Rattle.ad_bits.specs.Rows.{has}
use Rattle.ad_theory.specs.Numbers.{logic_of, IsNumberedModule}
use Rattle.ad_theory.proofs.StarLemmas.{above_begins}
use Rattle.ad_star.proofs.Rounds.{whole_module, star_of_above}
use Rattle.ad_star.proofs.starred.StarredExtractor.module.Goals as goal

pub returns-in-Bottom-clause-found : goal.returns-in-Bottom-clause-found
returns-in-Bottom-clause-found g c =
    let u = c.args.universe.now in
    let whole : (i : ℕ) → IsTrue (g.U.Universe.is_live u i) → IsTrue (has c.args.self.now.all i) =
    (λ i o. c.args.self.now.whole i (omega (arith, g.met.U.Universe.live_below u i o, c.args.self.now.all_size, c.requires.limits.axioms))) in
    subst (λ k. IsNumberedModule k (g.U.Universe.symbols_of u) (g.U.Universe.is_local u) (has c.args.seed.now) (λ i. IsTrue (g.U.Universe.is_live u i)) (has c.module.new.out) (has c.module.new.closure))
    (sym c.in-Bottom.is)
    (whole_module {L = logic_of (g.U.Universe.symbols_of u) (g.U.Universe.is_local u Bottom)} whole c.module.ensures.found)

pub returns-in-Top-clause-found : goal.returns-in-Top-clause-found
returns-in-Top-clause-found g c =
    let u = c.args.universe.now in
    let whole : (i : ℕ) → IsTrue (g.U.Universe.is_live u i) → IsTrue (has c.args.self.now.all i) =
    (λ i o. c.args.self.now.whole i (omega (arith, g.met.U.Universe.live_below u i o, c.args.self.now.all_size, c.requires.limits.axioms))) in
    subst (λ k. IsNumberedModule k (g.U.Universe.symbols_of u) (g.U.Universe.is_local u) (has c.args.seed.now) (λ i. IsTrue (g.U.Universe.is_live u i)) (has c.module-in-Top.new.out) (has c.module-in-Top.new.closure))
    (sym c.in-Top.is)
    (whole_module {L = logic_of (g.U.Universe.symbols_of u) (g.U.Universe.is_local u Top)} whole c.module-in-Top.ensures.found)

pub returns-in-Star-clause-found : goal.returns-in-Star-clause-found
returns-in-Star-clause-found g c =
    let u = c.args.universe.now in
    let B = logic_of (g.U.Universe.symbols_of u) (g.U.Universe.is_local u Bottom) in
    let T = logic_of (g.U.Universe.symbols_of u) (g.U.Universe.is_local u Top) in
    let whole : (i : ℕ) → IsTrue (g.U.Universe.is_live u i) → IsTrue (has c.args.self.now.all i) =
    (λ i o. c.args.self.now.whole i (omega (arith, g.met.U.Universe.live_below u i o, c.args.self.now.all_size, c.requires.limits.axioms))) in
    subst (λ k. IsNumberedModule k (g.U.Universe.symbols_of u) (g.U.Universe.is_local u) (has c.args.seed.now) (λ i. IsTrue (g.U.Universe.is_live u i)) (has c.alternate.new.out) (has c.alternate.new.closure))
    (sym c.in-Star.is)
    (star_of_above {B = B} {T = T} (above_begins {B = B} {T = T} (has c.args.self.now.all) whole) c.alternate.ensures.found.0, c.alternate.ensures.found.1)
