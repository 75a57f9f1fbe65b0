use Rattle.ad_command.proofs.AskLemmas.{one_thing}
use Rattle.ad_command.proofs.laws.one_asking.Goals as goal

pub returns : goal.returns
returns c = one_thing
