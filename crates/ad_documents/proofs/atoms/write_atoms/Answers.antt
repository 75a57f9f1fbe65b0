-- What was written are the atoms of the edition's ontology.
use Rattle.std.proofs.Common.{refl, sym, subst}
use Rattle.ad_atoms_text.specs.AtomsText.{atoms_text}
use Rattle.ad_documents.specs.Answered.{AnswerCause, IsWritten}
use Rattle.ad_documents.specs.Output.{IsAtomsText}
use Rattle.ad_documents.proofs.AnswerLemmas.{caused, written}
use Rattle.ad_documents.proofs.atoms.write_atoms.Goals as goal

pub returns-clause-written : goal.returns-clause-written
returns-clause-written g c =
    let text = c.atoms_body.ensures.text in
    let is = IsAtomsText c.args.kind c.args.edition.now.shown.axioms in
    let old = g.K.Sink.written c.args.sink.now in
    let new = g.K.Sink.written c.atoms_body.new.sink in
    subst (IsWritten is old new) (sym c.answer_of.ensures)
    (written is old new (atoms_text text.shape) c.atoms_body.result (record { shape = text.shape; shaped = text.is; listed = refl }) text.puts)

pub returns-clause-cause : goal.returns-clause-cause
returns-clause-cause g c = subst (AnswerCause _ _) (sym c.answer_of.ensures) (caused _ _ _ c.atoms_body.ensures.cause)
