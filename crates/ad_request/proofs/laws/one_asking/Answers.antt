use Rattle.ad_request.proofs.LineLemmas.{asks_once}
use Rattle.ad_request.proofs.laws.one_asking.Goals as goal

pub returns : goal.returns
returns c = asks_once
