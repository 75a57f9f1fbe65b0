-- The limits are the universe's sizes.
use Rattle.std.proofs.Common.{sym, subst}
use Rattle.ad_joined.specs.Stars.{AreStars}
use Rattle.ad_joined.proofs.stars.star_rows.Goals as goal

pub rows_by-requires-clause-stars : goal.rows_by-requires-clause-stars
rows_by-requires-clause-stars g c =
    let u = c.args.universe.now in
    let symbols = g.U.Universe.symbols_of u in
    let local = g.U.Universe.is_local u in
    let live = g.U.Universe.is_live u in
    subst (λ n. AreStars symbols local live n (g.U.Universe.symbol_count u) c.in_ok-stars.stars) (sym c.requires.sizes.axioms)
    (subst (λ n. AreStars symbols local live c.args.limits.now.axioms n c.in_ok-stars.stars) (sym c.requires.sizes.entities) (c.in_ok-stars.ensures symbols local live))
