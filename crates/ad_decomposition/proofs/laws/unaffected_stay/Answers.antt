use Rattle.ad_decomposition.proofs.Affected.{unaffected}
use Rattle.ad_decomposition.proofs.laws.unaffected_stay.Goals as goal

pub returns : goal.returns
returns c change tables kind i is before after below genuine live f = unaffected change is before after below tables genuine kind i live f
