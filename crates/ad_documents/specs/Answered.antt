-- How a document is answered.
use Rattle.std.specs.Prelude.{◌≡◌, ℕ, ◌≤◌, List, [], Option}
use Rattle.ad_io.specs.Flow.{Gains, GainsFront, Rose}
use Rattle.ad_io.specs.declared.writes.Wrote.{Wrote}
use Rattle.ad_io.specs.declared.writes.Wrote.TheVariants as wrote
use Rattle.ad_command.specs.Command.{Command}
use Rattle.ad_documents.specs.declared.answer.Answer.{Answer}
use Rattle.ad_documents.specs.declared.answer.Answer.TheVariants.{Written, Refused, WriteFault, Memory}
use Rattle.ad_documents.specs.Causes.{IsUnfitFor}
use Rattle.ad_documents.specs.Output.{IsOutput}

-- what writing an output comes to
abbrev pub answer_of : Wrote → Answer
answer_of wrote.All = Written
answer_of wrote.Failed = WriteFault

-- a text that is so was written, or a front of it; or nothing, since memory is wanting
abbrev pub IsWritten : (List ℕ → Type 0) → Option (List ℕ) → Option (List ℕ) → Answer → Type 0
IsWritten IsSo old new Written = (output : List ℕ) × IsSo output × Gains old new output
IsWritten IsSo old new (Refused refusal) = ⊥
IsWritten IsSo old new WriteFault = (output : List ℕ) × IsSo output × GainsFront old new output
IsWritten IsSo old new Memory = Gains old new []

-- the command's whole output on the text was written, or a front of it; or nothing, since the text is refused or memory
-- is wanting
abbrev pub IsAnswered : Command → List ℕ → Option (List ℕ) → Option (List ℕ) → Answer → Type 0
IsAnswered command text old new Written = (output : List ℕ) × IsOutput command text output × Gains old new output
IsAnswered command text old new (Refused refusal) = IsUnfitFor text refusal × Gains old new []
IsAnswered command text old new WriteFault = (output : List ℕ) × IsOutput command text output × GainsFront old new output
IsAnswered command text old new Memory = Gains old new []

-- the count of the sink's faults never falls, and rises at a write fault
pub record AnswerCause (before now : ℕ) (answer : Answer) : Type 0 where
  pub later : before ≤ now
  pub fault : answer ≡ WriteFault → Rose before now
