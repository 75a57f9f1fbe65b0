use Rattle.ad_decomposition.proofs.Classes.{covers_between}
use Rattle.ad_decomposition.proofs.laws.covers_are_between.Goals as goal

pub returns : goal.returns
returns g c G order a b = covers_between G order a b
