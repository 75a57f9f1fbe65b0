-- What a run tells about its status.
use Rattle.std.specs.Prelude.{◌≡◌, ℕ, List, [], ◌∷◌, Option, codes}
use Rattle.ad_io.specs.Sink.{Puts, PutCause}
use Rattle.ad_io.specs.declared.writes.Wrote.{Wrote}
use Rattle.ad_lines.specs.Lines.{line_of}
use Rattle.ad_reply.specs.Replies.{cause_words, refused}
use Rattle.ad_session.specs.Flows.{Flow}
use Rattle.ad_run.specs.declared.status.Status.{Status}
use Rattle.ad_run.specs.declared.status.Status.TheVariants.{Done, Usage, Refused, Cut, TooLong, Spent, ReadFault, WriteFault, Memory}
use Rattle.ad_run.specs.Ends.{EndsSo}
use Rattle.ad_run.specs.Statuses.{code_of}

-- the line with these words
abbrev pub note : List (List ℕ) → List ℕ
note words = line_of (codes "owlad:" ∷ words)

-- the note of a status. A refused document is told as a reply would say it.
abbrev pub note_of : Status → List ℕ
note_of Done = []
note_of Usage = note (codes "usage" ∷ [])
note_of (Refused refusal) = note (codes "refused" ∷ cause_words (refused refusal))
note_of Cut = note (codes "cut" ∷ [])
note_of TooLong = note (codes "too long" ∷ [])
note_of Spent = note (codes "spent" ∷ [])
note_of ReadFault = note (codes "read fault" ∷ [])
note_of WriteFault = note (codes "write fault" ∷ [])
note_of Memory = note (codes "memory" ∷ [])

-- the notes got exactly this, or a front of it where they fail
pub record IsNoted (old new : Option (List ℕ)) (before now : ℕ) (text : List ℕ) : Type 0 where
  pub wrote : Wrote
  pub told : Puts old new wrote text
  pub cause : PutCause before now wrote

-- the run ended so, its exit status says it, and the notes got exactly its note, or a front of it where they fail
pub record IsTold (words : List (List ℕ)) (a b : Flow) (code : ℕ) (old new : Option (List ℕ)) (before now : ℕ) : Type 0 where
  pub status : Status
  pub coded : code ≡ code_of status
  pub ends : EndsSo words a b status
  pub wrote : Wrote
  pub told : Puts old new wrote (note_of status)
  pub cause : PutCause before now wrote
