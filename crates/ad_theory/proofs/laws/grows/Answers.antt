use Rattle.ad_theory.proofs.ModuleLemmas.{grows}
use Rattle.ad_theory.proofs.ListedLemmas.{listed_has, has_listed}
use Rattle.ad_theory.proofs.laws.grows.Goals as goal

pub returns : goal.returns
returns g c L seed more O P M N wider larger m n a h = has_listed L more P N n a (grows {L = L} wider larger m.is_module n.is_module a (listed_has L seed O M m a h))
