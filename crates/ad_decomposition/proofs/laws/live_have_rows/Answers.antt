use Rattle.ad_decomposition.proofs.Genuine.{have_rows}
use Rattle.ad_decomposition.proofs.laws.live_have_rows.Goals as goal

pub returns : goal.returns
returns g c u tables kind order genuine all = have_rows (g.U.Universe.symbols_of u) (g.U.Universe.is_local u) (g.U.Universe.is_live u) (g.U.Universe.slot_count u) tables genuine kind order all
