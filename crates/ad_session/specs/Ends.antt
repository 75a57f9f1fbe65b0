-- How a session ends, and what a whole session is.
use Rattle.std.specs.Prelude.{◌≡◌, ◌⊎◌, ℕ, ◌+◌, ◌<◌, List, ◌++◌, length, flat_map}
use Rattle.ad_io.specs.Flow.{Loses, Gains, GainsFront, Rose}
use Rattle.ad_items.specs.Items.{Bounds, Item, item_bytes, AreItems, Ending, quit, closed, cut, too_long, spent, Closes, InTime, IsShort, IsCutPayload}
use Rattle.ad_reply.specs.Replies.{Reply, reply_bytes}
use Rattle.ad_session.specs.declared.ends.End.{End}
use Rattle.ad_session.specs.declared.ends.End.TheVariants as ends
use Rattle.ad_session.specs.Flows.{Flow}
use Rattle.ad_session.specs.Steps.{Steps}

-- the bytes of items, and of replies
abbrev pub items_bytes : List Item → List ℕ
items_bytes items = flat_map item_bytes items

abbrev pub replies_bytes : List Reply → List ℕ
replies_bytes replies = flat_map reply_bytes replies

-- the input ends so behind the items, and all replies were written
pub record EndsAs (bounds : Bounds) (ending : Ending) (count : ℕ) (a b : Flow) (items : List Item) (replies : List Reply) : Type 0 where
  pub taken : List ℕ
  pub closes : Closes bounds ending taken b.left
  pub in_time : InTime bounds ending count
  pub lost : Loses a.left b.left (items_bytes items ++ taken)
  pub gained : Gains a.written b.written (replies_bytes replies)

-- the source failed: the replies to the items that were read whole were written, and a part of an item was taken
pub record FailsReading (bounds : Bounds) (count : ℕ) (a b : Flow) (items : List Item) (replies : List Reply) : Type 0 where
  pub taken : List ℕ
  pub part : IsShort taken ⊎ IsCutPayload bounds taken
  pub in_time : count < bounds.requests
  pub lost : Loses a.left b.left (items_bytes items ++ taken)
  pub gained : Gains a.written b.written (replies_bytes replies)
  pub rose : Rose a.read_faults b.read_faults

-- the sink failed: a front of the replies was written, and nothing was taken behind the items
pub record FailsWriting (a b : Flow) (items : List Item) (replies : List Reply) : Type 0 where
  pub lost : Loses a.left b.left (items_bytes items)
  pub gained : GainsFront a.written b.written (replies_bytes replies)
  pub rose : Rose a.write_faults b.write_faults

-- after the items, of which so many were answered
abbrev pub EndsSo : Bounds → End → ℕ → Flow → Flow → List Item → List Reply → Type 0
EndsSo bounds ends.Quit count a b items replies = EndsAs bounds quit count a b items replies
EndsSo bounds ends.Closed count a b items replies = EndsAs bounds closed count a b items replies
EndsSo bounds ends.Cut count a b items replies = EndsAs bounds cut count a b items replies
EndsSo bounds ends.TooLong count a b items replies = EndsAs bounds too_long count a b items replies
EndsSo bounds ends.Spent count a b items replies = EndsAs bounds spent count a b items replies
EndsSo bounds ends.ReadFault count a b items replies = FailsReading bounds count a b items replies
EndsSo bounds ends.WriteFault count a b items replies = FailsWriting a b items replies

-- how many items are counted as answered: all, but for the last one where its reply was cut
abbrev pub IsCount : End → ℕ → ℕ → Type 0
IsCount ends.Quit count answered = answered ≡ count
IsCount ends.Closed count answered = answered ≡ count
IsCount ends.Cut count answered = answered ≡ count
IsCount ends.TooLong count answered = answered ≡ count
IsCount ends.Spent count answered = answered ≡ count
IsCount ends.ReadFault count answered = answered ≡ count
IsCount ends.WriteFault count answered = answered + 1 ≡ count

-- A whole session, from one state to another. A step says which reply an item may have in a state, and to which state
-- it leads.
pub record SessionIs {P : Type 0} (step : P → Item → Reply → P → Type 0) (bounds : Bounds) (end : End) (a b : Flow) (old new : P) : Type 0 where
  pub items : List Item
  pub replies : List Reply
  pub items_are : AreItems bounds 0 items
  pub run : Steps step old items replies new
  pub ending : EndsSo bounds end (length items) a b items replies
