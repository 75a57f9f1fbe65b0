use Rattle.ad_check.proofs.Decided.{nesting_is}
use Rattle.ad_check.proofs.laws.nesting_of_fronts.Goals as goal

pub returns : goal.returns
returns c = nesting_is
