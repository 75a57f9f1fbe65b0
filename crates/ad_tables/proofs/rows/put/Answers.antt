use Rattle.std.proofs.lemmas.List.{map-set}
use Rattle.ad_tables.proofs.rows.put.Goals as goal

pub returns : goal.returns
returns c = map-set _ _ _ _
