use Rattle.ad_theory.proofs.StarLemmas.{own_listed}
use Rattle.ad_theory.proofs.laws.own.Goals as goal

pub returns : goal.returns
returns g c L seed O M antitone m = own_listed antitone m
