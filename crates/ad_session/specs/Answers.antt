-- The replies of a session in which edits are told as logs.
use Rattle.std.specs.Prelude.{◌≡◌, ◌⊎◌, ℕ, ◌+◌, List, [], ◌∷◌, ◌++◌, IsFalse, IsTrue, None, Some, length}
use Rattle.ad_base.specs.declared.limits.Which.{Which}
use Rattle.ad_base.specs.declared.limits.Limits.{Limits}
use Rattle.ad_request.specs.declared.request.Request.{Request}
use Rattle.ad_request.specs.Requests.{expected_of}
use Rattle.ad_items.specs.Items.{Item}
use Rattle.ad_tree.specs.declared.edits.Op.{Op}
use Rattle.ad_apply.specs.Apply.{applied, counts_of}
use Rattle.ad_edition.specs.Log.{Logged, IsLog, replay}
use Rattle.ad_edition.specs.Limit.{is_moved, passed}
use Rattle.ad_edition.specs.Sight.{Sight, Footing, tell}
use Rattle.ad_reply.specs.Replies.{Reply, answered, limited, moved, no_memory, counts_body}
use Rattle.ad_session.specs.Asked.{SpellsBatch}
use Rattle.ad_session.specs.LookAnswers.{LookAnswers}
use Rattle.ad_session.specs.Steps.{Steps}

-- what the session has seen, its ticket, and how many of the ticket's edits were accepted
pub record Pass : Type 0 where
  pub sight : Sight
  pub ticket : ℕ
  pub count : ℕ

abbrev pub pass : Sight → ℕ → ℕ → Pass
pass sight ticket count = record { sight = sight; ticket = ticket; count = count }

pub data Answers (limits : Limits) (old : Pass) (i : Item) (reply : Reply) (new : Pass) : Type 0 where
  -- no edit, or one that can't be read
  said : (footing : Footing) (sight : Sight) → LookAnswers limits.depth footing old.sight i reply sight → new ≡ pass sight old.ticket old.count → Answers limits old i reply new
  -- an accepted edit: the log that the session is told ends with its entry. Where it expected an edition, that is the one before
  accepted : (request : Request) (ops : List Op) (log : List Logged) (entry : Logged) → i.asked ≡ Some request → SpellsBatch limits.depth request i.payload ops
      → IsLog (log ++ entry ∷ []) → entry.ticket ≡ old.ticket → entry.batch ≡ ops → new ≡ pass (tell old.sight (log ++ entry ∷ [])) old.ticket (old.count + 1)
      → IsFalse (is_moved (expected_of request) (length log)) → passed limits (length log) (applied (replay log) ops) ≡ None → reply ≡ answered (length log + 1) (counts_body (counts_of (replay log) ops)) → Answers limits old i reply new
  -- an edit that expected another edition than that of the log that the session is told
  moved_edit : (request : Request) (ops : List Op) (log : List Logged) → i.asked ≡ Some request → SpellsBatch limits.depth request i.payload ops
      → IsLog log → new ≡ pass (tell old.sight log) old.ticket old.count → IsTrue (is_moved (expected_of request) (length log)) → reply ≡ moved (length log) → Answers limits old i reply new
  -- an edit that expected no other edition, and passes a limit on the edition of the log that the session is told
  limited_edit : (request : Request) (ops : List Op) (log : List Logged) (which : Which) (count : ℕ) → i.asked ≡ Some request → SpellsBatch limits.depth request i.payload ops
      → IsLog log → new ≡ pass (tell old.sight log) old.ticket old.count → IsFalse (is_moved (expected_of request) (length log)) → passed limits (length log) (applied (replay log) ops) ≡ Some (record { which = which; count = count })
      → reply ≡ limited (length log) which count → Answers limits old i reply new
  -- memory is wanting for the edit: the session may be told a log
  uncommitted : (request : Request) (ops : List Op) → i.asked ≡ Some request → SpellsBatch limits.depth request i.payload ops
      → (new ≡ old) ⊎ ((log : List Logged) × IsLog log × (new ≡ pass (tell old.sight log) old.ticket old.count)) → reply ≡ no_memory → Answers limits old i reply new

-- the replies follow the items in order
abbrev pub SessionRun : Limits → Pass → List Item → List Reply → Pass → Type 0
SessionRun limits = Steps (Answers limits)
