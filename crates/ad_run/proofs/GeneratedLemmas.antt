-- What a command on a generated ontology did.
use Rattle.std.proofs.Common.{◌≡◌, ◌⊎◌, inl, inr, ℕ, List, refl, sym, ◌∙◌, ◌≤◌, subst, arith}
use Rattle.std.specs.Prelude.{Option, Result, Ok, Err, IfOk, IfErr}
use Rattle.ad_base.specs.declared.memory.Memory.{Memory as NoMemory}
use Rattle.ad_command.specs.Asks.{IsSomeGenerated}
use Rattle.ad_command.specs.Command.{Command, IsCommand, nothing, reads}
use Rattle.ad_command.proofs.CommandLemmas.{one_input}
use Rattle.ad_generated.specs.Output.{IsGiven}
use Rattle.ad_io.specs.Flow.{NotRisen}
use Rattle.ad_io.specs.Sink.{PutCause}
use Rattle.ad_io.specs.declared.writes.Wrote.{Wrote}
use Rattle.ad_io.specs.declared.writes.Wrote.TheVariants as wrote
use Rattle.ad_session.specs.Flows.{Flow, flow}
use Rattle.ad_run.specs.declared.status.Status.{Status}
use Rattle.ad_run.specs.declared.status.Status.TheVariants.{Done, Usage, Refused, Cut, TooLong, Spent, ReadFault, WriteFault, Memory}
use Rattle.ad_run.specs.Ends.{EndsOn, EndsSo, GeneratedEnds, IsUntouched, Ran}
use Rattle.ad_run.specs.Runs.{RunCause}
use Rattle.ad_run.specs.Statuses.{code_of, output_status}

module _ (words : List (List ℕ)) (command : Command) (is : IsCommand words command) (made : reads command ≡ nothing) (left : Option (List ℕ)) (faults : ℕ) (old new : Option (List ℕ)) (before now : ℕ) where
  ran_so : (s : Status) → GeneratedEnds command (flow left faults old before) (flow left faults new now) s → Ran words (flow left faults old before) (flow left faults new now) s
  ran_so s h = record { command = command; commanded = is; ran = subst (λ input. EndsOn input command (flow left faults old before) (flow left faults new now) s) (sym made) h }

  pub given_ends : (output : Result Wrote NoMemory) → IsGiven command old new output → EndsSo words (flow left faults old before) (flow left faults new now) (output_status output)
  given_ends (Ok wrote.All) h = ran_so Done (record { left = refl; faults = refl }, h.0, h.1, h.2)
  given_ends (Ok wrote.Failed) h = ran_so WriteFault (record { left = refl; faults = refl }, h.0, h.1, h.2)
  given_ends (Err memory) h = ran_so Memory (record { left = refl; faults = refl }, h)

-- the counts of faults, by how the output was written
pub given_cause : (left : Option (List ℕ)) (faults : ℕ) (old new : Option (List ℕ)) (before now : ℕ) (output : Result Wrote NoMemory)
    → IfOk output (PutCause before now) → IfErr output (λ memory. now ≡ before) → RunCause (flow left faults old before) (flow left faults new now) (output_status output)
given_cause left faults old new before now (Ok wrote.All) cause same = record { read_later = omega arith; write_later = cause.later; read_fault = λ (e : Done ≡ ReadFault). absurd (cc); write_fault = λ (e : Done ≡ WriteFault). absurd (cc) }
given_cause left faults old new before now (Ok wrote.Failed) cause same = record { read_later = omega arith; write_later = cause.later; read_fault = λ (e : WriteFault ≡ ReadFault). absurd (cc); write_fault = λ _. cause.failed refl }
given_cause left faults old new before now (Err memory) cause same = record { read_later = omega arith; write_later = omega (arith, same); read_fault = λ (e : Memory ≡ ReadFault). absurd (cc); write_fault = λ (e : Memory ≡ WriteFault). absurd (cc) }

-- words whose output was given so are those of a command
pub given_asked : (output : Result Wrote NoMemory) (status : Status) → status ≡ output_status output → status ≡ Usage → ⊥
given_asked (Ok wrote.All) status is e = absurd (let h : Done ≡ Usage = sym is ∙ e in cc)
given_asked (Ok wrote.Failed) status is e = absurd (let h : WriteFault ≡ Usage = sym is ∙ e in cc)
given_asked (Err memory) status is e = absurd (let h : Memory ≡ Usage = sym is ∙ e in cc)

module _ (words : List (List ℕ)) (a b : Flow) (some : IsSomeGenerated words) where
  on_generated : (s : Status) → (ran : Ran words a b s) → GeneratedEnds ran.command a b s
  on_generated s ran = subst (λ input. EndsOn input ran.command a b s) (one_input words ran.command some.command ran.commanded some.commanded ∙ some.generated) ran.ran

  -- words of such a command read nothing
  pub reads_none : (s : Status) → EndsSo words a b s → IsUntouched a b
  reads_none Done ran = (on_generated Done ran).0
  reads_none Usage ran = absurd (ran some.command some.commanded)
  reads_none (Refused refusal) ran = absurd (on_generated (Refused refusal) ran)
  reads_none Cut ran = absurd (on_generated Cut ran)
  reads_none TooLong ran = absurd (on_generated TooLong ran)
  reads_none Spent ran = absurd (on_generated Spent ran)
  reads_none ReadFault ran = absurd (on_generated ReadFault ran)
  reads_none WriteFault ran = (on_generated WriteFault ran).0
  reads_none Memory ran = (on_generated Memory ran).0

  -- and where the sink doesn't fail all is written, unless memory is wanting
  pub generated_code : (s : Status) → EndsSo words a b s → RunCause a b s → NotRisen a.write_faults b.write_faults → (code_of s ≡ 0) ⊎ (code_of s ≡ 6)
  generated_code Done ran cause writes = inl refl
  generated_code Usage ran cause writes = absurd (ran some.command some.commanded)
  generated_code (Refused refusal) ran cause writes = absurd (on_generated (Refused refusal) ran)
  generated_code Cut ran cause writes = absurd (on_generated Cut ran)
  generated_code TooLong ran cause writes = absurd (on_generated TooLong ran)
  generated_code Spent ran cause writes = absurd (on_generated Spent ran)
  generated_code ReadFault ran cause writes = absurd (on_generated ReadFault ran)
  generated_code WriteFault ran cause writes = absurd (writes (cause.write_fault refl))
  generated_code Memory ran cause writes = inr refl
