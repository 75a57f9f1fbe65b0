-- What can be answered is answered, on the machine's log at that point, unless memory is wanting; and each refusal has its
-- cause.
use Rattle.std.specs.Prelude.{◌≡◌, ◌≢◌, ◌⊎◌, ℕ, ◌+◌, IsFalse, IsTrue, List, None, Some, length}
use Rattle.ad_request.specs.declared.request.Request.{Request}
use Rattle.ad_request.specs.Requests.{expected_of}
use Rattle.ad_items.specs.Items.{Item}
use Rattle.ad_tree.specs.declared.edits.Op.{Op}
use Rattle.ad_apply.specs.Apply.{applied, counts_of}
use Rattle.ad_edition.specs.Log.{replay}
use Rattle.ad_edition.specs.Limit.{Passed, is_moved, passed}
use Rattle.ad_edition.specs.State.{State, after_look, after_commit}
use Rattle.ad_read.specs.declared.texts.ReadRefused.{ReadRefused}
use Rattle.ad_read.specs.declared.texts.ReadRefused.TheVariants.{Memory}
use Rattle.ad_reply.specs.Replies.{Reply, IsReplyOn, answered, limited, moved, no_request, unread_text, no_memory, counts_body}
use Rattle.ad_session.specs.Asked.{IsUnread, SpellsBatch, SpellsQuery, TakesMemory}
use Rattle.ad_session.specs.Machines.{MachineAnswers}

-- a line that is no request is answered so, and changes nothing
abbrev pub LinesAreRefused : Type 0
LinesAreRefused = (old new : State) (i : Item) (reply : Reply) → MachineAnswers old i reply new → i.asked ≡ None → (reply ≡ no_request) × (new ≡ old)

-- A query that was read is answered on the whole log, which the session enters; or memory is wanting for it, where it takes
-- any.
abbrev pub QueriesAreAnswered : Type 0
QueriesAreAnswered = (old new : State) (i : Item) (reply : Reply) (request : Request) → MachineAnswers old i reply new → i.asked ≡ Some request → SpellsQuery old.limits.depth request i.payload
    → (TakesMemory request × (reply ≡ no_memory) × (new ≡ old)) ⊎ (IsReplyOn old.limits.depth request i.payload (length old.log) (replay old.log) reply × (new ≡ after_look old))

-- an edit that expects the newest edition or none, and passes no limit, is made
abbrev pub EditsAreMade : Type 0
EditsAreMade = (old new : State) (i : Item) (reply : Reply) (request : Request) (ops : List Op) → MachineAnswers old i reply new → i.asked ≡ Some request → SpellsBatch old.limits.depth request i.payload ops
    → IsFalse (is_moved (expected_of request) (length old.log)) → passed old.limits (length old.log) (applied (replay old.log) ops) ≡ None
    → (reply ≡ no_memory) ⊎ ((reply ≡ answered (length old.log + 1) (counts_body (counts_of (replay old.log) ops))) × (new ≡ after_commit old old.session ops))

-- one that passes a limit is refused by the first, and changes nothing
abbrev pub EditsAreLimited : Type 0
EditsAreLimited = (old new : State) (i : Item) (reply : Reply) (request : Request) (ops : List Op) (over : Passed) → MachineAnswers old i reply new → i.asked ≡ Some request → SpellsBatch old.limits.depth request i.payload ops
    → IsFalse (is_moved (expected_of request) (length old.log)) → passed old.limits (length old.log) (applied (replay old.log) ops) ≡ Some over
    → (reply ≡ no_memory) ⊎ ((reply ≡ limited (length old.log) over.which over.count) × (new ≡ old))

-- one that expects another edition is refused, whatever limits it passes, and changes nothing
abbrev pub MovedEditsAreRefused : Type 0
MovedEditsAreRefused = (old new : State) (i : Item) (reply : Reply) (request : Request) (ops : List Op) → MachineAnswers old i reply new → i.asked ≡ Some request → SpellsBatch old.limits.depth request i.payload ops
    → IsTrue (is_moved (expected_of request) (length old.log)) → (reply ≡ no_memory) ⊎ ((reply ≡ moved (length old.log)) × (new ≡ old))

-- a payload that is refused for a cause is answered with it, and changes nothing
abbrev pub TextsAreRefused : Type 0
TextsAreRefused = (old new : State) (i : Item) (reply : Reply) (request : Request) (cause : ReadRefused) → MachineAnswers old i reply new → cause ≢ Memory → i.asked ≡ Some request
    → IsUnread old.limits.depth request i.payload cause → (reply ≡ no_memory) ⊎ ((reply ≡ unread_text cause) × (new ≡ old))
