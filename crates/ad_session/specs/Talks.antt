-- What a talk does until an edit is to be made, or the session ends.
use Rattle.std.specs.Prelude.{◌≡◌, ℕ, ◌+◌, ◌<◌, List, Option, Some, ◌++◌, length}
use Rattle.ad_io.specs.Flow.{Loses, Gains}
use Rattle.ad_request.specs.declared.request.Request.{Request}
use Rattle.ad_request.specs.Requests.{expected_of}
use Rattle.ad_items.specs.Items.{Bounds, Item, item_bytes, IsItem, AreItems}
use Rattle.ad_edition.specs.Sight.{Sight, Footing}
use Rattle.ad_tree.specs.declared.edits.Op.{Op}
use Rattle.ad_reply.specs.Replies.{Reply}
use Rattle.ad_session.specs.declared.ends.Pause.{Pause}
use Rattle.ad_session.specs.declared.ends.Pause.TheVariants as pauses
use Rattle.ad_session.specs.Asked.{SpellsBatch}
use Rattle.ad_session.specs.Steps.{Steps}
use Rattle.ad_session.specs.LookAnswers.{LookAnswers}
use Rattle.ad_session.specs.Flows.{Flow}
use Rattle.ad_session.specs.Ends.{EndsSo, IsCount, items_bytes, replies_bytes}

-- an edit that was read: the item, the operations that its payload spells, and the edition that it expects, if any
pub record IsEdit (bounds : Bounds) (depth : ℕ) (i : Item) (ops : List Op) (expected : Option ℕ) : Type 0 where
  pub request : Request
  pub is : IsItem bounds i
  pub asked : i.asked ≡ Some request
  pub spelled : SpellsBatch depth request i.payload ops
  pub expects : expected ≡ expected_of request

-- an edit was read behind the items, and no byte more; all replies were written
pub record PausesAt (bounds : Bounds) (depth count : ℕ) (a b : Flow) (items : List Item) (replies : List Reply) (ops : List Op) (expected : Option ℕ) : Type 0 where
  pub item : Item
  pub edit : IsEdit bounds depth item ops expected
  pub in_time : count < bounds.requests
  pub lost : Loses a.left b.left (items_bytes items ++ item_bytes item)
  pub gained : Gains a.written b.written (replies_bytes replies)

abbrev pub PausesSo : Bounds → ℕ → Pause → ℕ → ℕ → Flow → Flow → List Item → List Reply → Type 0
PausesSo bounds depth (pauses.Edit batch expected) count answered a b items replies = PausesAt bounds depth count a b items replies batch expected × (answered ≡ count)
PausesSo bounds depth (pauses.Ended end) count answered a b items replies = EndsSo bounds end count a b items replies × IsCount end count answered

-- a talk after n answered items: what was left and written, and what the session has seen, before and after. Where it
-- pauses for an edit, all items so far were answered; where it ended, so many as the end says.
pub record TalkIs (bounds : Bounds) (depth : ℕ) (footing : Footing) (pause : Pause) (n answered : ℕ) (a b : Flow) (old new : Sight) : Type 0 where
  pub items : List Item
  pub replies : List Reply
  pub items_are : AreItems bounds n items
  pub run : Steps (LookAnswers depth footing) old items replies new
  pub pauses : PausesSo bounds depth pause (n + length items) answered a b items replies
