-- The star module of a part that contains the star module is the star module.
use Rattle.ad_base.specs.declared.limits.Side.TheVariants.{Bottom, Top}
use Rattle.ad_theory.specs.Numbers.{logic_of}
use Rattle.ad_star.proofs.Rounds.{star_of_above}
use Rattle.ad_star.proofs.starred.Starred.star_within.Goals as goal

pub returns-clause-found : goal.returns-clause-found
returns-clause-found g c =
    let u = c.args.universe.now in
    let B = logic_of (g.U.Universe.symbols_of u) (g.U.Universe.is_local u Bottom) in
    let T = logic_of (g.U.Universe.symbols_of u) (g.U.Universe.is_local u Top) in
    (star_of_above {B = B} {T = T} c.requires.above c.alternate.ensures.found.0, c.alternate.ensures.found.1)
