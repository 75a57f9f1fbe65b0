-- What answering one item may come to.
use Rattle.std.specs.Prelude.{◌≡◌, ℕ, ◌+◌, ◌-◌, ◌^◌, min, List, [], Option, None, Some, Result, Ok, Err}
use Rattle.ad_io.specs.Flow.{Loses, Gains, GainsFront, Rose}
use Rattle.ad_io.specs.Sink.{Puts}
use Rattle.ad_io.specs.declared.writes.Wrote.{Wrote}
use Rattle.ad_io.specs.declared.writes.Wrote.TheVariants as wrote
use Rattle.ad_tree.specs.declared.edits.Op.{Op}
use Rattle.ad_items.specs.Items.{Bounds, Item, item_bytes, IsItem, Ending, quit, closed, cut, too_long}
use Rattle.ad_items.specs.Next.{TakesEnd, TakesPart}
use Rattle.ad_edition.specs.Sight.{Sight, Footing}
use Rattle.ad_edition.specs.declared.receipts.Receipt.{Receipt}
use Rattle.ad_edition.specs.declared.receipts.Refused.{Refused}
use Rattle.ad_edition.specs.declared.receipts.Refused.TheVariants as refusals
use Rattle.ad_reply.specs.Replies.{Reply, reply_bytes, accepted, limited, moved, no_memory}
use Rattle.ad_edition.specs.declared.look.NoLook.{NoLook}
use Rattle.ad_edition.specs.declared.look.NoLook.TheVariants as looks
use Rattle.ad_reply.specs.declared.refusal.Refusal.{Refusal}
use Rattle.ad_reply.specs.declared.refusal.Refusal.TheVariants as refused_for
use Rattle.ad_session.specs.declared.ends.End.{End}
use Rattle.ad_session.specs.declared.ends.End.TheVariants as ends
use Rattle.ad_session.specs.declared.turn.Turn.{Turn}
use Rattle.ad_session.specs.declared.turn.Turn.TheVariants as turns
use Rattle.ad_session.specs.LookAnswers.{LookAnswers}
use Rattle.ad_session.specs.Talks.{IsEdit}
use Rattle.ad_session.specs.Flows.{Flow}

-- a reply to the item was written, or a front of it
pub record Speaks (depth : ℕ) (footing : Footing) (old new : Sight) (i : Item) (before after : Option (List ℕ)) (written : Wrote) : Type 0 where
  pub reply : Reply
  pub says : LookAnswers depth footing old i reply new
  pub puts : Puts before after written (reply_bytes reply)

-- an item was read and answered
pub record TurnsOnce (bounds : Bounds) (depth : ℕ) (footing : Footing) (a b : Flow) (old new : Sight) : Type 0 where
  pub item : Item
  pub reply : Reply
  pub is : IsItem bounds item
  pub says : LookAnswers depth footing old item reply new
  pub lost : Loses a.left b.left (item_bytes item)
  pub gained : Gains a.written b.written (reply_bytes reply)

-- an edit was read
pub record TurnsToEdit (bounds : Bounds) (depth : ℕ) (a b : Flow) (ops : List Op) (expected : Option ℕ) : Type 0 where
  pub item : Item
  pub edit : IsEdit bounds depth item ops expected
  pub lost : Loses a.left b.left (item_bytes item)
  pub gained : Gains a.written b.written []

-- an item was read, and a front of its reply written
pub record TurnsToFault (bounds : Bounds) (depth : ℕ) (footing : Footing) (a b : Flow) (old new : Sight) : Type 0 where
  pub item : Item
  pub reply : Reply
  pub is : IsItem bounds item
  pub says : LookAnswers depth footing old item reply new
  pub lost : Loses a.left b.left (item_bytes item)
  pub gained : GainsFront a.written b.written (reply_bytes reply)
  pub rose : Rose a.write_faults b.write_faults

-- the input ended
pub record TurnsToEnd (bounds : Bounds) (ending : Ending) (a b : Flow) (old new : Sight) : Type 0 where
  pub end : TakesEnd bounds ending a.left b.left
  pub gained : Gains a.written b.written []
  pub seen : new ≡ old

-- the source failed
pub record TurnsToCut (bounds : Bounds) (a b : Flow) (old new : Sight) : Type 0 where
  pub part : TakesPart bounds a.left b.left
  pub gained : Gains a.written b.written []
  pub rose : Rose a.read_faults b.read_faults
  pub seen : new ≡ old

abbrev pub EndsTurn : Bounds → ℕ → Footing → End → Flow → Flow → Sight → Sight → Type 0
EndsTurn bounds depth footing ends.Quit a b old new = TurnsToEnd bounds quit a b old new
EndsTurn bounds depth footing ends.Closed a b old new = TurnsToEnd bounds closed a b old new
EndsTurn bounds depth footing ends.Cut a b old new = TurnsToEnd bounds cut a b old new
EndsTurn bounds depth footing ends.TooLong a b old new = TurnsToEnd bounds too_long a b old new
EndsTurn bounds depth footing ends.Spent a b old new = ⊥
EndsTurn bounds depth footing ends.ReadFault a b old new = TurnsToCut bounds a b old new
EndsTurn bounds depth footing ends.WriteFault a b old new = TurnsToFault bounds depth footing a b old new

abbrev pub TurnIs : Bounds → ℕ → Footing → Turn → Flow → Flow → Sight → Sight → Type 0
TurnIs bounds depth footing turns.Said a b old new = TurnsOnce bounds depth footing a b old new
TurnIs bounds depth footing (turns.Edit batch expected) a b old new = TurnsToEdit bounds depth a b batch expected × (new ≡ old)
TurnIs bounds depth footing (turns.Ended end) a b old new = EndsTurn bounds depth footing end a b old new

-- The same for an item that was read: what was written, and what the session has seen.
abbrev pub Replies : Bounds → ℕ → Footing → Item → Turn → Option (List ℕ) → Option (List ℕ) → ℕ → ℕ → Sight → Sight → Type 0
Replies bounds depth footing i turns.Said before after faults now old new = Speaks depth footing old new i before after wrote.All
Replies bounds depth footing i (turns.Edit batch expected) before after faults now old new = IsEdit bounds depth i batch expected × Gains before after [] × (new ≡ old)
Replies bounds depth footing i (turns.Ended ends.WriteFault) before after faults now old new = Speaks depth footing old new i before after wrote.Failed × Rose faults now
Replies bounds depth footing i (turns.Ended ends.Quit) before after faults now old new = ⊥
Replies bounds depth footing i (turns.Ended ends.Closed) before after faults now old new = ⊥
Replies bounds depth footing i (turns.Ended ends.Cut) before after faults now old new = ⊥
Replies bounds depth footing i (turns.Ended ends.TooLong) before after faults now old new = ⊥
Replies bounds depth footing i (turns.Ended ends.Spent) before after faults now old new = ⊥
Replies bounds depth footing i (turns.Ended ends.ReadFault) before after faults now old new = ⊥

-- the reply of an edit that was committed or refused
abbrev pub outcome_reply : Result Receipt Refused → Reply
outcome_reply (Ok receipt) = accepted receipt
outcome_reply (Err (refusals.Moved edition)) = moved edition
outcome_reply (Err (refusals.Limit edition which count)) = limited edition which count
outcome_reply (Err refusals.Memory) = no_memory

-- what a look that failed is answered with
abbrev pub refusal_of : NoLook → Refusal
refusal_of looks.Shut = refused_for.Shut
refusal_of looks.Memory = refused_for.Memory

-- what a written reply, or a front of it, comes to
abbrev pub turn_of : Wrote → Turn
turn_of wrote.All = turns.Said
turn_of wrote.Failed = turns.Ended ends.WriteFault

-- an answer that ends the session was cut by the sink; the others are counted, as far as it is counted
abbrev pub wrote_of : Option End → Wrote
wrote_of None = wrote.All
wrote_of (Some end) = wrote.Failed

abbrev pub count_after : Option End → ℕ → ℕ
count_after None answered = min (answered + 1) (2 ^ 32 - 1)
count_after (Some end) answered = answered
