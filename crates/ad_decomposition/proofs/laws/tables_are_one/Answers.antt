use Rattle.ad_decomposition.proofs.Genuine.{one_table}
use Rattle.ad_decomposition.proofs.laws.tables_are_one.Goals as goal

pub returns : goal.returns
returns g c u one other genuine genuine' = one_table (g.U.Universe.symbols_of u) (g.U.Universe.is_local u) (g.U.Universe.is_live u) (g.U.Universe.slot_count u) one genuine other genuine'
