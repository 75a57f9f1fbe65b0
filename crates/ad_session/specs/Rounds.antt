-- A session goes in rounds: items up to an edit, which is made, or up to the end.
use Rattle.std.specs.Prelude.{◌≡◌, ℕ, ◌+◌, ◌<◌, List, Option, None, Some, length, slice_set}
use Rattle.ad_io.specs.Flow.{Loses, Gains}
use Rattle.ad_items.specs.Items.{Bounds, Item, AreItems}
use Rattle.ad_edition.specs.State.{State}
use Rattle.ad_reply.specs.Replies.{Reply}
use Rattle.ad_session.specs.declared.ends.End.{End}
use Rattle.ad_session.specs.Flows.{Flow}
use Rattle.ad_session.specs.Steps.{Steps}
use Rattle.ad_session.specs.Ends.{EndsSo, items_bytes, replies_bytes}

-- the items were answered: so many more than before, at least one
pub record GoesOn (before now count : ℕ) (a b : Flow) (items : List Item) (replies : List Reply) : Type 0 where
  pub counted : now ≡ count
  pub more : before < now
  pub lost : Loses a.left b.left (items_bytes items)
  pub gained : Gains a.written b.written (replies_bytes replies)

abbrev pub RoundEnds : Bounds → Option End → ℕ → ℕ → ℕ → Flow → Flow → List Item → List Reply → Type 0
RoundEnds bounds None before now count a b items replies = GoesOn before now count a b items replies
RoundEnds bounds (Some end) before now count a b items replies = EndsSo bounds end count a b items replies

-- a round, after so many answered items
pub record RoundIs {P : Type 0} (step : P → Item → Reply → P → Type 0) (bounds : Bounds) (end : Option End) (before now : ℕ) (a b : Flow) (old new : P) : Type 0 where
  pub items : List Item
  pub replies : List Reply
  pub items_are : AreItems bounds before items
  pub run : Steps step old items replies new
  pub ends : RoundEnds bounds end before now (before + length items) a b items replies

-- the limits of a machine stay, and what the other sessions have entered
pub record KeepsOthers (session : ℕ) (old new : State) : Type 0 where
  pub limits : new.limits ≡ old.limits
  pub others : slice_set new.entered session 0 ≡ slice_set old.entered session 0
