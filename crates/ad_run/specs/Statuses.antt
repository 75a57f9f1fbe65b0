-- The exit statuses.
use Rattle.std.specs.Prelude.{◌≡◌, ℕ, Result, Ok, Err}
use Rattle.ad_base.specs.declared.memory.Memory.{Memory as NoMemory}
use Rattle.ad_io.specs.declared.writes.Wrote.{Wrote}
use Rattle.ad_io.specs.declared.writes.Wrote.TheVariants as wrote
use Rattle.ad_documents.specs.declared.answer.Answer.{Answer}
use Rattle.ad_documents.specs.declared.answer.Answer.TheVariants as answers
use Rattle.ad_session.specs.declared.ends.End.{End}
use Rattle.ad_session.specs.declared.ends.End.TheVariants as ends
use Rattle.ad_run.specs.declared.status.Status.{Status}
use Rattle.ad_run.specs.declared.status.Status.TheVariants.{Done, Usage, Refused, Cut, TooLong, Spent, ReadFault, WriteFault, Memory}

abbrev pub code_of : Status → ℕ
code_of Done = 0
code_of Usage = 2
code_of (Refused refusal) = 3
code_of Cut = 3
code_of TooLong = 3
code_of Spent = 3
code_of ReadFault = 4
code_of WriteFault = 5
code_of Memory = 6

-- the status of a command on a document that was answered so
abbrev pub answer_status : Answer → Status
answer_status answers.Written = Done
answer_status (answers.Refused refusal) = Refused refusal
answer_status answers.WriteFault = WriteFault
answer_status answers.Memory = Memory

-- the status of a command that generates an ontology and whose output was written so, or for which memory was wanting
abbrev pub output_status : Result Wrote NoMemory → Status
output_status (Ok wrote.All) = Done
output_status (Ok wrote.Failed) = WriteFault
output_status (Err memory) = Memory

-- a status that the program ends with
abbrev pub IsStatus : ℕ → Type 0
IsStatus code = (status : Status) × (code ≡ code_of status)

-- the status of a session with this end
abbrev pub status_of : End → Status
status_of ends.Quit = Done
status_of ends.Closed = Done
status_of ends.Cut = Cut
status_of ends.TooLong = TooLong
status_of ends.Spent = Spent
status_of ends.ReadFault = ReadFault
status_of ends.WriteFault = WriteFault
