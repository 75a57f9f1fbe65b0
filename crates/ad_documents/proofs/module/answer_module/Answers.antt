-- The draft's ontology is that of the text.
use Rattle.ad_command.specs.Command.{of_module}
use Rattle.ad_documents.proofs.AnswerLemmas.{answered}
use Rattle.ad_documents.proofs.module.answer_module.Goals as goal

pub returns-in-Ok-clause-answered : goal.returns-in-Ok-clause-answered
returns-in-Ok-clause-answered g c =
    answered (of_module c.args.kind c.args.seed.now) c.args.text.now _ _ _ c.in-Ok.ensures.read c.write_module.result c.write_module.ensures.written
