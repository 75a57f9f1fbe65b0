-- What answering an item comes to.
use Rattle.std.proofs.Common.{◌<◌, ℕ, List, Option, None, Some, refl, subst, arith}
use Rattle.ad_io.specs.Flow.{Loses}
use Rattle.ad_io.specs.Sink.{Puts, PutCause}
use Rattle.ad_io.specs.declared.writes.Wrote.{Wrote}
use Rattle.ad_io.specs.declared.writes.Wrote.TheVariants as wrote
use Rattle.ad_request.specs.declared.request.Request.{Request}
use Rattle.ad_request.specs.declared.request.Request.TheVariants.{Load, Edit, Module, Genuine, Atoms, Atom, Export, Stat, Quit}
use Rattle.ad_request.specs.Requests.{payload_size}
use Rattle.ad_items.specs.Items.{Bounds, Item, item, item_bytes, IsItem}
use Rattle.ad_items.specs.Next.{TakesItem}
use Rattle.ad_items.specs.declared.item.Payload.{Payload}
use Rattle.ad_items.specs.declared.item.Payload.TheVariants as payloads
use Rattle.ad_edition.specs.Sight.{Sight, Footing}
use Rattle.ad_reply.specs.Replies.{no_request, no_memory, reply_bytes}
use Rattle.ad_session.specs.declared.ends.End.TheVariants as ends
use Rattle.ad_session.specs.declared.turn.Turn.{Turn}
use Rattle.ad_session.specs.declared.turn.Turn.TheVariants as turns
use Rattle.ad_session.specs.Asked.{TakesMemory}
use Rattle.ad_session.specs.Flows.{flow}
use Rattle.ad_session.specs.LookAnswers as says
use Rattle.ad_session.specs.Turns.{Speaks, Replies, TurnIs, turn_of}

-- a reply that was written, or a front of it
pub replied : (bounds : Bounds) (depth : ℕ) (footing : Footing) (i : Item) (w : Wrote) (before after : Option (List ℕ)) (faults now : ℕ) (old new : Sight) → Speaks depth footing old new i before after w → PutCause faults now w → Replies bounds depth footing i (turn_of w) before after faults now old new
replied bounds depth footing i wrote.All before after faults now old new speaks cause = speaks
replied bounds depth footing i wrote.Failed before after faults now old new speaks cause = (speaks, cause.failed refl)

-- the same for the item's turn
pub turned : (bounds : Bounds) (depth : ℕ) (footing : Footing) (i : Item) (turn : Turn) (left left' : Option (List ℕ)) (reads reads' : ℕ) (before after : Option (List ℕ)) (faults now : ℕ) (old new : Sight)
    → IsItem bounds i → Loses left left' (item_bytes i) → Replies bounds depth footing i turn before after faults now old new → TurnIs bounds depth footing turn (flow left reads before faults) (flow left' reads' after now) old new
turned bounds depth footing i turns.Said left left' reads reads' before after faults now old new is lost r = record { item = i; reply = r.reply; is = is; says = r.says; lost = lost; gained = r.puts }
turned bounds depth footing i (turns.Edit batch expected) left left' reads reads' before after faults now old new is lost r = (record { item = i; edit = r.0; lost = lost; gained = r.1 }, r.2)
turned bounds depth footing i (turns.Ended ends.WriteFault) left left' reads reads' before after faults now old new is lost r = record { item = i; reply = r.0.reply; is = is; says = r.0.says; lost = lost; gained = r.0.puts; rose = r.1 }
turned bounds depth footing i (turns.Ended ends.Quit) left left' reads reads' before after faults now old new is lost r = absurd r
turned bounds depth footing i (turns.Ended ends.Closed) left left' reads reads' before after faults now old new is lost r = absurd r
turned bounds depth footing i (turns.Ended ends.Cut) left left' reads reads' before after faults now old new is lost r = absurd r
turned bounds depth footing i (turns.Ended ends.TooLong) left left' reads reads' before after faults now old new is lost r = absurd r
turned bounds depth footing i (turns.Ended ends.Spent) left left' reads reads' before after faults now old new is lost r = absurd r
turned bounds depth footing i (turns.Ended ends.ReadFault) left left' reads reads' before after faults now old new is lost r = absurd r

-- a line that is no request
pub unasked_turn : (bounds : Bounds) (depth : ℕ) (footing : Footing) (payload : Payload) (w : Wrote) (left left' : Option (List ℕ)) (reads reads' : ℕ) (before after : Option (List ℕ)) (faults now : ℕ) (sight : Sight)
    → TakesItem bounds left left' None payload → Puts before after w (reply_bytes no_request) → PutCause faults now w → TurnIs bounds depth footing (turn_of w) (flow left reads before faults) (flow left' reads' after now) sight sight
unasked_turn bounds depth footing payload w left left' reads reads' before after faults now sight takes puts cause =
    let i = item takes.line None takes.bytes in
    turned bounds depth footing (item takes.line None takes.bytes) (turn_of w) left left' reads reads' before after faults now sight sight takes.is takes.lost
    (replied bounds depth footing (item takes.line None takes.bytes) w before after faults now sight sight (record { reply = no_request; says = says.unasked refl refl refl; puts = puts }) cause)

-- a request with a payload may want memory
sized_takes : (request : Request) → 0 < payload_size request → TakesMemory request
sized_takes (Load n) more = tt
sized_takes (Edit n expected) more = tt
sized_takes (Module k n) more = tt
sized_takes (Genuine k n) more = tt
sized_takes (Atoms k) more = omega arith
sized_takes (Atom k n) more = omega arith
sized_takes Export more = omega arith
sized_takes Stat more = omega arith
sized_takes Quit more = omega arith

-- a payload that was dropped
pub dropped_turn : (bounds : Bounds) (depth : ℕ) (footing : Footing) (request : Request) (w : Wrote) (left left' : Option (List ℕ)) (reads reads' : ℕ) (before after : Option (List ℕ)) (faults now : ℕ) (sight : Sight)
    → TakesItem bounds left left' (Some request) payloads.Dropped → Puts before after w (reply_bytes no_memory) → PutCause faults now w → TurnIs bounds depth footing (turn_of w) (flow left reads before faults) (flow left' reads' after now) sight sight
dropped_turn bounds depth footing request w left left' reads reads' before after faults now sight takes puts cause =
    let more : 0 < payload_size request = subst (λ n. 0 < n) takes.is.whole takes.read in
    turned bounds depth footing (item takes.line (Some request) takes.bytes) (turn_of w) left left' reads reads' before after faults now sight sight takes.is takes.lost
    (replied bounds depth footing (item takes.line (Some request) takes.bytes) w before after faults now sight sight (record { reply = no_memory; says = says.wanting request refl (sized_takes request more) refl refl; puts = puts }) cause)
