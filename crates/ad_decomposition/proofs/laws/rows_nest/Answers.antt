use Rattle.ad_decomposition.proofs.Nests.{rows_nested}
use Rattle.ad_decomposition.proofs.laws.rows_nest.Goals as goal

pub returns : goal.returns
returns g c u tables kind order genuine all = rows_nested (g.U.Universe.symbols_of u) (g.U.Universe.is_local u) (g.U.Universe.is_live u) (g.U.Universe.slot_count u) tables kind genuine order all
