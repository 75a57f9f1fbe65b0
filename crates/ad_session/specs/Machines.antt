-- The replies of the session of a machine that looks. Each is on the machine's log at that point, and says exactly what
-- becomes of the machine.
use Rattle.std.specs.Prelude.{◌≡◌, ◌≢◌, ℕ, ◌+◌, IsFalse, IsTrue, List, None, Some, length}
use Rattle.ad_base.specs.declared.limits.Which.{Which}
use Rattle.ad_request.specs.declared.request.Request.{Request}
use Rattle.ad_request.specs.Requests.{expected_of}
use Rattle.ad_items.specs.Items.{Item}
use Rattle.ad_tree.specs.declared.edits.Op.{Op}
use Rattle.ad_apply.specs.Apply.{applied, counts_of}
use Rattle.ad_edition.specs.Log.{replay}
use Rattle.ad_edition.specs.Limit.{is_moved, passed}
use Rattle.ad_edition.specs.State.{State, after_look, after_commit}
use Rattle.ad_read.specs.declared.texts.ReadRefused.{ReadRefused}
use Rattle.ad_read.specs.declared.texts.ReadRefused.TheVariants.{Memory}
use Rattle.ad_reply.specs.Replies.{Reply, IsReplyOn, answered, limited, moved, no_request, unread_text, no_memory, counts_body}
use Rattle.ad_session.specs.Asked.{TakesMemory, IsUnread, SpellsBatch}
use Rattle.ad_session.specs.Steps.{Steps}

pub data MachineAnswers (old : State) (i : Item) (reply : Reply) (new : State) : Type 0 where
  -- the line is no request
  unasked : i.asked ≡ None → reply ≡ no_request → new ≡ old → MachineAnswers old i reply new
  -- the payload is refused for a cause, which the reply names
  unread : (request : Request) (cause : ReadRefused) → i.asked ≡ Some request → cause ≢ Memory → IsUnread old.limits.depth request i.payload cause → reply ≡ unread_text cause → new ≡ old → MachineAnswers old i reply new
  -- a query: the session enters the whole log
  queried : (request : Request) → i.asked ≡ Some request → IsReplyOn old.limits.depth request i.payload (length old.log) (replay old.log) reply → new ≡ after_look old → MachineAnswers old i reply new
  -- memory is wanting for the payload, or for what it says, or for an edit
  wanting : (request : Request) → i.asked ≡ Some request → TakesMemory request → reply ≡ no_memory → new ≡ old → MachineAnswers old i reply new
  -- an accepted edit, which expected the newest edition or none: the log has one more entry, of the session's ticket
  accepted : (request : Request) (ops : List Op) → i.asked ≡ Some request → SpellsBatch old.limits.depth request i.payload ops → IsFalse (is_moved (expected_of request) (length old.log))
      → passed old.limits (length old.log) (applied (replay old.log) ops) ≡ None → reply ≡ answered (length old.log + 1) (counts_body (counts_of (replay old.log) ops)) → new ≡ after_commit old old.session ops → MachineAnswers old i reply new
  -- an edit that expected another edition than the newest
  moved_edit : (request : Request) (ops : List Op) → i.asked ≡ Some request → SpellsBatch old.limits.depth request i.payload ops → IsTrue (is_moved (expected_of request) (length old.log))
      → reply ≡ moved (length old.log) → new ≡ old → MachineAnswers old i reply new
  -- an edit that expected the newest edition or none, and passes a limit
  limited_edit : (request : Request) (ops : List Op) (which : Which) (count : ℕ) → i.asked ≡ Some request → SpellsBatch old.limits.depth request i.payload ops → IsFalse (is_moved (expected_of request) (length old.log))
      → passed old.limits (length old.log) (applied (replay old.log) ops) ≡ Some (record { which = which; count = count }) → reply ≡ limited (length old.log) which count → new ≡ old → MachineAnswers old i reply new

abbrev pub MachineRun : State → List Item → List Reply → State → Type 0
MachineRun = Steps MachineAnswers
