-- The edition's ontology is that of the text.
use Rattle.ad_command.specs.Command.{of_atoms}
use Rattle.ad_documents.proofs.AnswerLemmas.{answered}
use Rattle.ad_documents.proofs.atoms.answer_atoms.Goals as goal

pub returns-in-Ok-clause-answered : goal.returns-in-Ok-clause-answered
returns-in-Ok-clause-answered g c = λ workers.
    answered (of_atoms c.args.kind workers) c.args.text.now _ _ _ c.in-Ok.ensures.read c.write_atoms.result c.write_atoms.ensures.written
