-- What was written are the parts of the edition's ontology.
use Rattle.std.proofs.Common.{sym, subst}
use Rattle.ad_documents.specs.Answered.{AnswerCause, IsWritten}
use Rattle.ad_documents.proofs.AnswerLemmas.{caused, written}
use Rattle.ad_split.specs.Parts.{IsPartsText}
use Rattle.ad_documents.proofs.parts.split.Goals as goal

pub returns-clause-written : goal.returns-clause-written
returns-clause-written g c =
    let puts = c.write_parts.ensures.text in
    let is = IsPartsText c.args.kind c.args.edition.now.shown.axioms in
    let old = g.K.Sink.written c.args.sink.now in
    let new = g.K.Sink.written c.write_parts.new.sink in
    subst (IsWritten is old new) (sym c.answer_of.ensures) (written is old new puts.text c.write_parts.result puts.is puts.puts)

pub returns-clause-cause : goal.returns-clause-cause
returns-clause-cause g c = subst (AnswerCause _ _) (sym c.answer_of.ensures) (caused _ _ _ c.write_parts.ensures.cause)
