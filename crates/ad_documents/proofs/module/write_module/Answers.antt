-- What was written is the document of the module of the draft's ontology.
use Rattle.std.proofs.Common.{refl, sym, subst}
use Rattle.ad_syntax_laws.specs.ModuleDocument.{IsModuleDocumentOf}
use Rattle.ad_syntax_laws.specs.OntologyLogic.{seed_test}
use Rattle.ad_write.specs.Canonical.{canon_document}
use Rattle.ad_reply.specs.Bodies.{IsModuleDocument}
use Rattle.ad_documents.specs.Answered.{AnswerCause, IsWritten}
use Rattle.ad_documents.proofs.AnswerLemmas.{caused, written}
use Rattle.ad_documents.proofs.module.write_module.Goals as goal

pub returns-clause-written : goal.returns-clause-written
returns-clause-written g c =
    let document = c.module_body.ensures.document in
    let is = IsModuleDocument c.args.kind c.args.seed.now c.args.draft.now.next.shown.axioms in
    let old = g.K.Sink.written c.args.sink.now in
    let new = g.K.Sink.written c.module_body.new.sink in
    subst (IsWritten is old new) (sym c.answer_of.ensures)
    (written is old new (canon_document document.axioms) c.module_body.result
    (record { axioms = document.axioms; holds = subst (λ o. IsModuleDocumentOf c.args.kind (seed_test c.args.seed.now) o document.axioms) c.ontology.ensures.axioms document.is; document = refl })
    document.puts)

pub returns-clause-cause : goal.returns-clause-cause
returns-clause-cause g c = subst (AnswerCause _ _) (sym c.answer_of.ensures) (caused _ _ _ c.module_body.ensures.cause)
