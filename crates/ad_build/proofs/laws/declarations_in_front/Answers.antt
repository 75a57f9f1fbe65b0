use Rattle.ad_prefixes.proofs.HeadLemmas.{heads_all, none_other, front_spelled}
use Rattle.ad_build.proofs.laws.declarations_in_front.Goals as goal

pub returns : goal.returns
returns c = record { all = heads_all; other = none_other; spelled = front_spelled }
