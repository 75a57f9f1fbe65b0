use Rattle.std.proofs.Common.{sym, ◌∙◌}
use Rattle.ad_command.proofs.WordLemmas.{asked_module, module_or_not}
use Rattle.ad_command.proofs.asked.read_module.Goals as goal

pub returns-in-Some : goal.returns-in-Some
returns-in-Some c = let test = sym c.seeded_kind.ensures ∙ c.in-Some.is in (test, asked_module c.args.rest.now c.in-Some.kind test)

pub returns-in-None : goal.returns-in-None
returns-in-None c = module_or_not c.args.rest.now (sym c.seeded_kind.ensures ∙ c.in-None.is)
