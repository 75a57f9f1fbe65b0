use Rattle.ad_command.proofs.CommandLemmas.{one_command}
use Rattle.ad_command.proofs.laws.command_laws.Goals as goal

pub returns : goal.returns
returns c = one_command
