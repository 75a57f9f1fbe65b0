use Rattle.ad_check.proofs.Decided.{in_none}
use Rattle.ad_check.proofs.laws.fault_is_in_none.Goals as goal

pub returns : goal.returns
returns c = in_none
