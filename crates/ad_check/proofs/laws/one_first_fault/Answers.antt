use Rattle.ad_check.proofs.Decided.{one_fault}
use Rattle.ad_check.proofs.laws.one_first_fault.Goals as goal

pub returns : goal.returns
returns c = one_fault
