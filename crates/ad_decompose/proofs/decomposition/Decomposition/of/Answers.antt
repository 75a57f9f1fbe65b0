-- Each live axiom has a row, and the rows of genuine modules nest.
use Rattle.std.proofs.Common.{arith}
use Rattle.ad_base.specs.declared.limits.Kind.TheVariants.{Star}
use Rattle.ad_decomposition.proofs.Genuine.{have_rows}
use Rattle.ad_decomposition.proofs.Nests.{rows_nested}
use Rattle.ad_decompose.proofs.Listed.{few_listed}
use Rattle.ad_decompose.proofs.decomposition.Decomposition.of.Goals as goal

pub by_rows-requires-clause-few : goal.by_rows-requires-clause-few
by_rows-requires-clause-few g c =
    let u = c.args.universe.now in
    let genuine = c.in_ok-rows.ensures.rows in
    let each = have_rows (g.U.Universe.symbols_of u) (g.U.Universe.is_local u) (g.U.Universe.is_live u) (g.U.Universe.slot_count u) c.in_ok-rows.rows genuine Star c.args.order.now c.requires.live in
    omega (arith, few_listed c.args.order.now _ c.requires.distinct each.below, genuine.long Star, c.requires.sizes.axioms, c.requires.limits.axioms)

pub by_rows-requires-clause-rows : goal.by_rows-requires-clause-rows
by_rows-requires-clause-rows g c =
    let u = c.args.universe.now in
    λ kind. have_rows (g.U.Universe.symbols_of u) (g.U.Universe.is_local u) (g.U.Universe.is_live u) (g.U.Universe.slot_count u) c.in_ok-rows.rows c.in_ok-rows.ensures.rows kind c.args.order.now c.requires.live

pub by_rows-requires-clause-nested : goal.by_rows-requires-clause-nested
by_rows-requires-clause-nested g c =
    let u = c.args.universe.now in
    λ kind. rows_nested (g.U.Universe.symbols_of u) (g.U.Universe.is_local u) (g.U.Universe.is_live u) (g.U.Universe.slot_count u) c.in_ok-rows.rows kind c.in_ok-rows.ensures.rows c.args.order.now c.requires.live
