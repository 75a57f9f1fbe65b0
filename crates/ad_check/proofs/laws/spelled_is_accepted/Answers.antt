use Rattle.ad_check.proofs.Decided.{spelled}
use Rattle.ad_check.proofs.laws.spelled_is_accepted.Goals as goal

pub returns : goal.returns
returns c = spelled
