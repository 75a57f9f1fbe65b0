use Rattle.std.proofs.lemmas.List.{map-set}
use Rattle.ad_joined.proofs.ahead.put_row.Goals as goal

pub returns-clause-rows : goal.returns-clause-rows
returns-clause-rows c = map-set _ _ _ _
