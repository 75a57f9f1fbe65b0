-- The edition's ontology is that of the text.
use Rattle.ad_command.specs.Command.{of_split}
use Rattle.ad_documents.proofs.AnswerLemmas.{answered}
use Rattle.ad_documents.proofs.parts.answer_split.Goals as goal

pub returns-in-Ok-clause-answered : goal.returns-in-Ok-clause-answered
returns-in-Ok-clause-answered g c =
    answered (of_split c.args.kind) c.args.text.now _ _ _ c.in-Ok.ensures.read c.split.result c.split.ensures.written
