-- No axiom has a row, and none is listed.
use Rattle.std.proofs.Common.{sym, ◌∙◌, ap, subst}
use Rattle.ad_decomposition.specs.Tables.{AreGenuine}
use Rattle.ad_tables.specs.Rows.{without_rows}
use Rattle.ad_decompose.proofs.Nothing.{decomposed, no_rows, none_listed}
use Rattle.ad_decompose.proofs.decomposition.Decomposition.empty.Goals as goal

pub by_rows-requires-clause-distinct : goal.by_rows-requires-clause-distinct
by_rows-requires-clause-distinct g c = none_listed

pub returns : goal.returns
returns g c =
    let u = c.args.universe.now in
    let rows_are = c.in_ok-rows.ensures ∙ ap without_rows c.slots.ensures in
    decomposed (g.U.Universe.symbols_of u) (g.U.Universe.is_local u) (g.U.Universe.is_live u) (g.U.Universe.slot_count u) _ c.in_ok-rows.rows c.by_rows.result
    (subst (AreGenuine (g.U.Universe.symbols_of u) (g.U.Universe.is_local u) (g.U.Universe.is_live u) (g.U.Universe.slot_count u)) (sym rows_are) (no_rows (g.U.Universe.symbols_of u) (g.U.Universe.is_local u) (g.U.Universe.is_live u) (g.U.Universe.slot_count u) c.requires))
    c.by_rows.ensures.tables c.by_rows.ensures.atomic
