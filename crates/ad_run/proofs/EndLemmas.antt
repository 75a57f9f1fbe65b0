-- How a run ends, by how a text was answered, or a session ended.
use Rattle.std.proofs.Common.{◌≡◌, ◌≢◌, inl, ℕ, List, refl, sym, ◌∙◌, ◌≤◌, subst}
use Rattle.ad_base.specs.Limits.{standard}
use Rattle.ad_base.specs.declared.limits.Limits.{Limits}
use Rattle.ad_edition.specs.State.{State, at_first, after_attend}
use Rattle.ad_items.specs.Items.{Bounds, bounds_of}
use Rattle.ad_session.specs.Flows.{Flow}
use Rattle.ad_session.specs.Ends.{SessionIs}
use Rattle.ad_session.specs.Machines.{MachineAnswers}
use Rattle.ad_session.specs.declared.ends.End.{End}
use Rattle.ad_session.specs.declared.ends.End.TheVariants as ends
use Rattle.ad_run.specs.declared.status.Status.{Status}
use Rattle.ad_run.specs.declared.status.Status.TheVariants.{Done, Usage, Refused, Cut, TooLong, Spent, ReadFault, WriteFault, Memory}
use Rattle.ad_run.specs.Statuses.{answer_status, status_of}
use Rattle.ad_command.specs.Asks.{IsWithWorkers}
use Rattle.ad_command.specs.Command.{Command, IsCommand, a_document, of_script, reads}
use Rattle.ad_run.specs.Inputs.{IsRead}
use Rattle.ad_documents.specs.Answered.{AnswerCause, IsAnswered}
use Rattle.ad_documents.specs.declared.answer.Answer.{Answer}
use Rattle.ad_documents.specs.declared.answer.Answer.TheVariants as answers
use Rattle.ad_run.specs.Ends.{DocumentEnds, EndsOn, EndsSo, Ran, ScriptEnds}
use Rattle.ad_run.specs.Runs.{RunCause}

module _ (words : List (List ℕ)) (command : Command) (text : List ℕ) (a b : Flow) (is : IsCommand words command) (document : reads command ≡ a_document) where
  ran_so : (s : Status) → DocumentEnds command a b s → Ran words a b s
  ran_so s h = record { command = command; commanded = is; ran = subst (λ input. EndsOn input command a b s) (sym document) h }

  pub answered_ends : IsRead a.left b.left text → (answer : Answer) → IsAnswered command text a.written b.written answer → EndsSo words a b (answer_status answer)
  answered_ends read answers.Written h = ran_so Done (h.0, record { text = text; read = read; is_output = h.1 }, h.2)
  answered_ends read (answers.Refused refusal) h = ran_so (Refused refusal) (inl (text, read, h.0), h.1)
  answered_ends read answers.WriteFault h = ran_so WriteFault (h.0, record { text = text; read = read; is_output = h.1 }, h.2)
  answered_ends read answers.Memory h = ran_so Memory h

-- the counts of faults, by how a document was answered
pub answer_cause : (a b : Flow) (answer : Answer) → a.read_faults ≤ b.read_faults → AnswerCause a.write_faults b.write_faults answer → RunCause a b (answer_status answer)
answer_cause a b answers.Written reads cause = record { read_later = reads; write_later = cause.later; read_fault = λ (e : Done ≡ ReadFault). absurd (cc); write_fault = λ (e : Done ≡ WriteFault). absurd (cc) }
answer_cause a b (answers.Refused refusal) reads cause = record { read_later = reads; write_later = cause.later; read_fault = λ (e : Refused refusal ≡ ReadFault). absurd (cc); write_fault = λ (e : Refused refusal ≡ WriteFault). absurd (cc) }
answer_cause a b answers.WriteFault reads cause = record { read_later = reads; write_later = cause.later; read_fault = λ (e : WriteFault ≡ ReadFault). absurd (cc); write_fault = λ _. cause.fault refl }
answer_cause a b answers.Memory reads cause = record { read_later = reads; write_later = cause.later; read_fault = λ (e : Memory ≡ ReadFault). absurd (cc); write_fault = λ (e : Memory ≡ WriteFault). absurd (cc) }

-- words that were answered are those of a command
pub not_usage : (answer : Answer) (status : Status) → status ≡ answer_status answer → status ≢ Usage
not_usage answers.Written status is e = absurd (let h : Done ≡ Usage = sym is ∙ e in cc)
not_usage (answers.Refused refusal) status is e = absurd (let h : Refused refusal ≡ Usage = sym is ∙ e in cc)
not_usage answers.WriteFault status is e = absurd (let h : WriteFault ≡ Usage = sym is ∙ e in cc)
not_usage answers.Memory status is e = absurd (let h : Memory ≡ Usage = sym is ∙ e in cc)

module _ (a b : Flow) (machine : State) where
  ended : (e : End) → SessionIs MachineAnswers (bounds_of standard) e a b (at_first standard 1) machine → ScriptEnds a b (status_of e)
  ended ends.Quit s = record { end = ends.Quit; fits = tt; machine = machine; session = s }
  ended ends.Closed s = record { end = ends.Closed; fits = tt; machine = machine; session = s }
  ended ends.Cut s = record { end = ends.Cut; fits = refl; machine = machine; session = s }
  ended ends.TooLong s = record { end = ends.TooLong; fits = refl; machine = machine; session = s }
  ended ends.Spent s = record { end = ends.Spent; fits = refl; machine = machine; session = s }
  ended ends.ReadFault s = record { end = ends.ReadFault; fits = refl; machine = machine; session = s }
  ended ends.WriteFault s = record { end = ends.WriteFault; fits = refl; machine = machine; session = s }

  -- a session of the program ended
  pub session_ends : (limits : Limits) (first : State) (end : End) → limits ≡ standard → first ≡ at_first limits 1 → SessionIs MachineAnswers (bounds_of first.limits) end a b (after_attend first 0) machine → ScriptEnds a b (status_of end)
  session_ends limits first end standard_is first_is h =
      let from = subst (λ (m : State). SessionIs MachineAnswers (bounds_of m.limits) end a b (after_attend m 0) machine) first_is h in
      ended end (subst (λ (l : Limits). SessionIs MachineAnswers (bounds_of l) end a b (after_attend (at_first l 1) 0) machine) standard_is from)

  pub session_cause : (bounds : Bounds) (first : State) (end : End) → SessionIs MachineAnswers bounds end a b first machine → a.read_faults ≤ b.read_faults → a.write_faults ≤ b.write_faults → RunCause a b (status_of end)
  session_cause bounds first ends.ReadFault s reads writes = record { read_later = reads; write_later = writes; read_fault = λ _. s.ending.rose; write_fault = λ (e : ReadFault ≡ WriteFault). absurd (cc) }
  session_cause bounds first ends.WriteFault s reads writes = record { read_later = reads; write_later = writes; read_fault = λ (e : WriteFault ≡ ReadFault). absurd (cc); write_fault = λ _. s.ending.rose }
  session_cause bounds first ends.Quit s reads writes = record { read_later = reads; write_later = writes; read_fault = λ (e : Done ≡ ReadFault). absurd (cc); write_fault = λ (e : Done ≡ WriteFault). absurd (cc) }
  session_cause bounds first ends.Closed s reads writes = record { read_later = reads; write_later = writes; read_fault = λ (e : Done ≡ ReadFault). absurd (cc); write_fault = λ (e : Done ≡ WriteFault). absurd (cc) }
  session_cause bounds first ends.Cut s reads writes = record { read_later = reads; write_later = writes; read_fault = λ (e : Cut ≡ ReadFault). absurd (cc); write_fault = λ (e : Cut ≡ WriteFault). absurd (cc) }
  session_cause bounds first ends.TooLong s reads writes = record { read_later = reads; write_later = writes; read_fault = λ (e : TooLong ≡ ReadFault). absurd (cc); write_fault = λ (e : TooLong ≡ WriteFault). absurd (cc) }
  session_cause bounds first ends.Spent s reads writes = record { read_later = reads; write_later = writes; read_fault = λ (e : Spent ≡ ReadFault). absurd (cc); write_fault = λ (e : Spent ≡ WriteFault). absurd (cc) }

-- the words asked for it
pub script_ran : (words : List (List ℕ)) (a b : Flow) (workers : ℕ) → IsWithWorkers of_script words workers → (s : Status) → ScriptEnds a b s → EndsSo words a b s
script_ran words a b workers is Done h = record { command = of_script is.number; commanded = is.commanded; ran = h }
script_ran words a b workers is Usage h = absurd h
script_ran words a b workers is (Refused refusal) h = absurd h
script_ran words a b workers is Cut h = record { command = of_script is.number; commanded = is.commanded; ran = h }
script_ran words a b workers is TooLong h = record { command = of_script is.number; commanded = is.commanded; ran = h }
script_ran words a b workers is Spent h = record { command = of_script is.number; commanded = is.commanded; ran = h }
script_ran words a b workers is ReadFault h = record { command = of_script is.number; commanded = is.commanded; ran = h }
script_ran words a b workers is WriteFault h = record { command = of_script is.number; commanded = is.commanded; ran = h }
script_ran words a b workers is Memory h = record { command = of_script is.number; commanded = is.commanded; ran = h }
