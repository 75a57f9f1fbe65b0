-- What a reply without an edit may say, and what the session has seen afterwards. Payloads nest no deeper than a limit,
-- and looks stand on a footing.
use Rattle.std.specs.Prelude.{◌≡◌, ◌≢◌, ℕ, ◌≤◌, List, None, Some, length}
use Rattle.ad_io.specs.Flow.{Rose}
use Rattle.ad_request.specs.declared.request.Request.{Request}
use Rattle.ad_items.specs.Items.{Item}
use Rattle.ad_edition.specs.Log.{replay}
use Rattle.ad_edition.specs.Sight.{Sight, Footing, Enters, Reaches}
use Rattle.ad_read.specs.declared.texts.ReadRefused.{ReadRefused}
use Rattle.ad_read.specs.declared.texts.ReadRefused.TheVariants.{Memory}
use Rattle.ad_reply.specs.Replies.{Reply, IsReplyOn, no_request, unread_text, no_memory, shut}
use Rattle.ad_session.specs.Asked.{SpellsQuery, TakesMemory, IsUnread}

-- a look that didn't fail
pub record Looks (footing : Footing) (old new : Sight) : Type 0 where
  pub enters : Enters old new
  pub reaches : Reaches footing new.entered
  pub lapses : new.lapses ≡ old.lapses

pub data LookAnswers (depth : ℕ) (footing : Footing) (old : Sight) (i : Item) (reply : Reply) (new : Sight) : Type 0 where
  -- the line is no request
  unasked : i.asked ≡ None → reply ≡ no_request → new ≡ old → LookAnswers depth footing old i reply new
  -- the payload is refused for a cause, which the reply names
  unread : (request : Request) (cause : ReadRefused) → i.asked ≡ Some request → cause ≢ Memory → IsUnread depth request i.payload cause → reply ≡ unread_text cause → new ≡ old → LookAnswers depth footing old i reply new
  -- a query, answered on the edition of the log that the session then enters
  queried : (request : Request) → i.asked ≡ Some request → Looks footing old new → IsReplyOn depth request i.payload (length new.entered) (replay new.entered) reply → LookAnswers depth footing old i reply new
  -- memory is wanting for the payload, or for what it says
  wanting : (request : Request) → i.asked ≡ Some request → TakesMemory request → reply ≡ no_memory → new ≡ old → LookAnswers depth footing old i reply new
  -- the look for a query that was read failed for want of memory
  lapsed : (request : Request) → i.asked ≡ Some request → SpellsQuery depth request i.payload → Enters old new → Rose old.lapses new.lapses → reply ≡ no_memory → LookAnswers depth footing old i reply new
  -- the look for a query that was read found the editions shut
  barred : (request : Request) → i.asked ≡ Some request → SpellsQuery depth request i.payload → new ≡ record old { lapses = new.lapses } → Rose old.lapses new.lapses → old.lapses ≤ new.lapses → reply ≡ shut → LookAnswers depth footing old i reply new
