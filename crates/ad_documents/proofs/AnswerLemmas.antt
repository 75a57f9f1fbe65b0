-- From what was written of an ontology to the answer of a command.
use Rattle.std.proofs.Common.{◌≡◌, ℕ, ◌≤◌, List, [], Option, refl}
use Rattle.std.specs.Prelude.{Err, IsErrOf, Result}
use Rattle.ad_base.specs.Limits.{standard}
use Rattle.ad_io.specs.Flow.{Rose}
use Rattle.ad_io.specs.Sink.{Puts, PutCause}
use Rattle.ad_io.specs.declared.writes.Wrote.{Wrote}
use Rattle.ad_io.specs.declared.writes.Wrote.TheVariants as wrote
use Rattle.ad_apply.specs.Apply.{applied}
use Rattle.ad_edition.specs.Limit.{passed}
use Rattle.ad_read.specs.Texts.{IsDocument}
use Rattle.ad_reply.specs.declared.refusal.Refusal.{Refusal}
use Rattle.ad_reply.specs.declared.refusal.Refusal.TheVariants as refusals
use Rattle.ad_tree.specs.declared.edits.Op.{Op}
use Rattle.ad_documents.specs.Causes.{IsPassedBy, IsUnfitFor}
use Rattle.ad_command.specs.Command.{Command}
use Rattle.ad_tree.specs.declared.axioms.Noted.{Noted}
use Rattle.ad_documents.specs.declared.answer.Answer.{Answer}
use Rattle.ad_documents.specs.declared.answer.Answer.TheVariants as answers
use Rattle.ad_documents.specs.Answered.{AnswerCause, IsAnswered, IsWritten, answer_of}
use Rattle.ad_documents.specs.Output.{IsOntology, IsOut}

pub answered : (command : Command) (text : List ℕ) (ontology : List Noted) (old new : Option (List ℕ)) → IsOntology text ontology
    → (answer : Answer) → IsWritten (IsOut command ontology) old new answer → IsAnswered command text old new answer
answered command text ontology old new read answers.Written h = (h.0, record { ontology = ontology; read = read; is = h.1 }, h.2)
answered command text ontology old new read (answers.Refused refusal) h = absurd h
answered command text ontology old new read answers.WriteFault h = (h.0, record { ontology = ontology; read = read; is = h.1 }, h.2)
answered command text ontology old new read answers.Memory h = h

-- an output was written, or a front of it
pub written : (IsSo : List ℕ → Type 0) (old new : Option (List ℕ)) (output : List ℕ) (w : Wrote) → IsSo output → Puts old new w output → IsWritten IsSo old new (answer_of w)
written IsSo old new output wrote.All so puts = (output, so, puts)
written IsSo old new output wrote.Failed so puts = (output, so, puts)

pub caused : (before now : ℕ) (w : Wrote) → PutCause before now w → AnswerCause before now (answer_of w)
caused before now wrote.All cause = record { later = cause.later; fault = λ (e : answers.Written ≡ answers.WriteFault). absurd (cc) }
caused before now wrote.Failed cause = record { later = cause.later; fault = λ _. cause.failed refl }

-- a document whose ontology passes a limit is unfit for it
pub unfit : (text : List ℕ) (ops : List Op) → IsDocument standard.depth text ops → (refusal : Refusal) → IsPassedBy (passed standard 0 (applied [] ops)) refusal → IsUnfitFor text refusal
unfit text ops is refusals.Request h = absurd h
unfit text ops is (refusals.Text cause) h = absurd h
unfit text ops is (refusals.Limit edition which count) h = (h.0, ops, is, h.1)
unfit text ops is refusals.Memory h = absurd h
unfit text ops is refusals.Shut h = absurd h
unfit text ops is (refusals.Atom edition count) h = absurd h
unfit text ops is (refusals.Moved edition) h = absurd h

-- the cause of an answer that is a refusal
pub same_cause : {T E : Type 0} (r : Result T E) (a b : E) → r ≡ Err a → IsErrOf r b → a ≡ b
same_cause {T} {E} r a b is h = let e : r ≡ Err b = h in cc
