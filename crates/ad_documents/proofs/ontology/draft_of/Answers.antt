-- The document's ontology passes a limit.
use Rattle.std.proofs.Common.{subst}
use Rattle.ad_read.specs.Texts.{IsDocument}
use Rattle.ad_documents.proofs.AnswerLemmas.{unfit}
use Rattle.ad_documents.proofs.ontology.draft_of.Goals as goal

pub returns-in-Ok-clause-refused : goal.returns-in-Ok-clause-refused
returns-in-Ok-clause-refused c = λ refusal is. unfit c.args.text.now c.in-Ok.batch (subst (λ depth. IsDocument depth c.args.text.now c.in-Ok.batch) c.standard.ensures.depth c.in-Ok.ensures.read) refusal (c.begin_first.ensures.refused refusal is)
