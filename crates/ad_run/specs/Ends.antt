-- How a run of the program ends, in terms of its words and of the bytes of its source and its sink.
use Rattle.std.specs.Prelude.{◌≡◌, ℕ, List, []}
use Rattle.ad_base.specs.Limits.{standard}
use Rattle.ad_io.specs.Flow.{Gains, GainsFront}
use Rattle.ad_items.specs.Items.{bounds_of}
use Rattle.ad_edition.specs.State.{State, at_first}
use Rattle.ad_session.specs.Flows.{Flow}
use Rattle.ad_session.specs.Ends.{SessionIs}
use Rattle.ad_session.specs.Machines.{MachineAnswers}
use Rattle.ad_session.specs.declared.ends.End.{End}
use Rattle.ad_session.specs.declared.ends.End.TheVariants as ends
use Rattle.ad_run.specs.declared.status.Status.{Status}
use Rattle.ad_run.specs.declared.status.Status.TheVariants.{Done, Usage, Refused, Cut, TooLong, Spent, ReadFault, WriteFault, Memory}
use Rattle.ad_run.specs.Statuses.{code_of}
use Rattle.ad_command.specs.Command.{Command, IsCommand, IsNoCommand, Input, reads, a_document, a_session, nothing}
use Rattle.ad_run.specs.Causes.{IsUnfit}
use Rattle.ad_run.specs.Inputs.{IsRead}
use Rattle.ad_documents.specs.Output.{IsOutput}
use Rattle.ad_generated.specs.Output.{IsGenerated}

-- the source was read to its end, and this is the command's output on its text
pub record Finds (command : Command) (a b : Flow) (output : List ℕ) : Type 0 where
  pub text : List ℕ
  pub read : IsRead a.left b.left text
  pub is_output : IsOutput command text output

-- What a command on a document did, by the status. The sink has exactly its output; or its input was refused for a
-- cause, the source failed, or memory was wanting, and nothing was written; or the sink failed, and has a front of the
-- output.
abbrev pub DocumentEnds : Command → Flow → Flow → Status → Type 0
DocumentEnds command a b Done = (output : List ℕ) × Finds command a b output × Gains a.written b.written output
DocumentEnds command a b Usage = ⊥
DocumentEnds command a b (Refused refusal) = IsUnfit refusal a b × Gains a.written b.written []
DocumentEnds command a b Cut = ⊥
DocumentEnds command a b TooLong = ⊥
DocumentEnds command a b Spent = ⊥
DocumentEnds command a b ReadFault = Gains a.written b.written []
DocumentEnds command a b WriteFault = (output : List ℕ) × Finds command a b output × GainsFront a.written b.written output
DocumentEnds command a b Memory = Gains a.written b.written []

-- a session of a new machine was run to such an end
pub record RunsSession (P : End → Type 0) (a b : Flow) : Type 0 where
  pub end : End
  pub fits : P end
  pub machine : State
  pub session : SessionIs MachineAnswers (bounds_of standard) end a b (at_first standard 1) machine

-- the session was closed by its input
abbrev pub IsClosing : End → Type 0
IsClosing ends.Quit = Unit {0}
IsClosing ends.Closed = Unit {0}
IsClosing ends.Cut = ⊥
IsClosing ends.TooLong = ⊥
IsClosing ends.Spent = ⊥
IsClosing ends.ReadFault = ⊥
IsClosing ends.WriteFault = ⊥

-- What a session did, by the status. The sink has exactly the replies of the whole session; or the session was broken
-- off, since its input was cut or too long, or had as many requests as a session may have, or since the source or the
-- sink failed, and the sink has the replies up to there; or memory was wanting, and nothing was written.
abbrev pub ScriptEnds : Flow → Flow → Status → Type 0
ScriptEnds a b Done = RunsSession IsClosing a b
ScriptEnds a b Usage = ⊥
ScriptEnds a b (Refused refusal) = ⊥
ScriptEnds a b Cut = RunsSession (λ end. end ≡ ends.Cut) a b
ScriptEnds a b TooLong = RunsSession (λ end. end ≡ ends.TooLong) a b
ScriptEnds a b Spent = RunsSession (λ end. end ≡ ends.Spent) a b
ScriptEnds a b ReadFault = RunsSession (λ end. end ≡ ends.ReadFault) a b
ScriptEnds a b WriteFault = RunsSession (λ end. end ≡ ends.WriteFault) a b
ScriptEnds a b Memory = Gains a.written b.written []

-- nothing of the source was read
pub record IsUntouched (a b : Flow) : Type 0 where
  pub left : b.left ≡ a.left
  pub faults : b.read_faults ≡ a.read_faults

-- What a command that reads nothing did, by the status. The sink has exactly its output, or a front of it where it
-- failed; or memory was wanting, and nothing was written.
abbrev pub GeneratedEnds : Command → Flow → Flow → Status → Type 0
GeneratedEnds command a b Done = IsUntouched a b × (output : List ℕ) × IsGenerated command output × Gains a.written b.written output
GeneratedEnds command a b Usage = ⊥
GeneratedEnds command a b (Refused refusal) = ⊥
GeneratedEnds command a b Cut = ⊥
GeneratedEnds command a b TooLong = ⊥
GeneratedEnds command a b Spent = ⊥
GeneratedEnds command a b ReadFault = ⊥
GeneratedEnds command a b WriteFault = IsUntouched a b × (output : List ℕ) × IsGenerated command output × GainsFront a.written b.written output
GeneratedEnds command a b Memory = IsUntouched a b × Gains a.written b.written []

-- what a command did, by what it reads
abbrev pub EndsOn : Input → Command → Flow → Flow → Status → Type 0
EndsOn a_document command a b status = DocumentEnds command a b status
EndsOn a_session command a b status = ScriptEnds a b status
EndsOn nothing command a b status = GeneratedEnds command a b status

-- the words are a command, and it did this
pub record Ran (words : List (List ℕ)) (a b : Flow) (status : Status) : Type 0 where
  pub command : Command
  pub commanded : IsCommand words command
  pub ran : EndsOn (reads command) command a b status

-- what the run did, by its status
abbrev pub EndsSo : List (List ℕ) → Flow → Flow → Status → Type 0
EndsSo words a b Done = Ran words a b Done
EndsSo words a b Usage = IsNoCommand words
EndsSo words a b (Refused refusal) = Ran words a b (Refused refusal)
EndsSo words a b Cut = Ran words a b Cut
EndsSo words a b TooLong = Ran words a b TooLong
EndsSo words a b Spent = Ran words a b Spent
EndsSo words a b ReadFault = Ran words a b ReadFault
EndsSo words a b WriteFault = Ran words a b WriteFault
EndsSo words a b Memory = Ran words a b Memory

-- the run ended with a status of this code
pub record EndsWith (words : List (List ℕ)) (a b : Flow) (code : ℕ) : Type 0 where
  pub status : Status
  pub coded : code_of status ≡ code
  pub ran : Ran words a b status

-- with 0: all was written
abbrev pub IsDone : List (List ℕ) → Flow → Flow → Type 0
IsDone words a b = Ran words a b Done

-- with 3: the input was refused
abbrev pub IsRefused : List (List ℕ) → Flow → Flow → Type 0
IsRefused words a b = EndsWith words a b 3

-- with 4: the source failed
abbrev pub IsUnread : List (List ℕ) → Flow → Flow → Type 0
IsUnread words a b = Ran words a b ReadFault

-- with 5: the sink failed
abbrev pub IsCutOff : List (List ℕ) → Flow → Flow → Type 0
IsCutOff words a b = Ran words a b WriteFault

-- with 6: memory is wanting
abbrev pub IsWanting : List (List ℕ) → Flow → Flow → Type 0
IsWanting words a b = Ran words a b Memory
