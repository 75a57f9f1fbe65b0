-- A talk goes on item by item.
use Rattle.std.proofs.Common.{Option, ◌≡◌, inl, inr, ◌<◌, ◌≤◌, ◌+◌, ℕ, List, [], ◌∷◌, ◌++◌, length, refl, sym, ◌∙◌, ap, subst, arith, length-append}
use Rattle.std.specs.List.{AllByRecursion, flat_map}
use Rattle.std.proofs.lemmas.List.{append-nil}
use Rattle.std.proofs.lemmas.Grind.{flat_map-append}
use Rattle.ad_io.specs.Flow.{Loses, Gains, GainsFront, Rose}
use Rattle.ad_io.proofs.FlowLemmas.{gains_nothing, goes_on, stops, loses_nothing, loses_on}
use Rattle.ad_items.specs.Items.{Bounds, Item, item_bytes, IsItem, AreItems, Ending, quit, closed, cut, too_long, InTime}
use Rattle.ad_edition.specs.Sight.{Sight, Footing}
use Rattle.ad_tree.specs.declared.edits.Op.{Op}
use Rattle.ad_reply.specs.Replies.{Reply, reply_bytes}
use Rattle.ad_session.specs.declared.ends.End.{End}
use Rattle.ad_session.specs.declared.ends.End.TheVariants as ends
use Rattle.ad_session.specs.declared.ends.Pause.TheVariants as pauses
use Rattle.ad_session.specs.Steps.{Steps}
use Rattle.ad_session.specs.Flows.{Flow}
use Rattle.ad_session.specs.LookAnswers.{LookAnswers}
use Rattle.ad_session.specs.Ends.{items_bytes, replies_bytes, EndsAs}
use Rattle.ad_session.specs.Talks.{TalkIs}
use Rattle.ad_session.specs.Turns.{TurnsOnce, TurnsToEdit, TurnsToEnd, EndsTurn}

-- one more step
pub steps_more : {P I R : Type 0} (step : P → I → R → P → Type 0) (old mid new : P) (items : List I) (replies : List R) (i : I) (reply : R) → Steps step old items replies mid → step mid i reply new → Steps step old (items ++ i ∷ []) (replies ++ reply ∷ []) new
steps_more step old mid new [] [] i reply run more = (new, subst (λ m. step m i reply new) run more, refl)
steps_more step old mid new [] (r ∷ replies) i reply run more = absurd run
steps_more step old mid new (x ∷ items) [] i reply run more = absurd run
steps_more step old mid new (x ∷ items) (r ∷ replies) i reply run more = (run.0, run.1, steps_more step run.0 mid new items replies i reply run.2 more)

-- two runs one after the other
pub steps_join : {P I R : Type 0} (step : P → I → R → P → Type 0) (old mid new : P) (items more : List I) (replies others : List R) → Steps step old items replies mid → Steps step mid more others new → Steps step old (items ++ more) (replies ++ others) new
steps_join step old mid new [] more [] others run then_ = subst (λ m. Steps step m more others new) run then_
steps_join step old mid new [] more (r ∷ replies) others run then_ = absurd run
steps_join step old mid new (x ∷ items) more [] others run then_ = absurd run
steps_join step old mid new (x ∷ items) more (r ∷ replies) others run then_ = (run.0, run.1, steps_join step run.0 mid new items more replies others run.2 then_)

each_more : {X : Type 0} (P : X → Type 0) (xs : List X) (x : X) → AllByRecursion P xs → P x → AllByRecursion P (xs ++ x ∷ [])
each_more P [] x all one = (one, tt)
each_more P (y ∷ xs) x all one = (all.0, each_more P xs x all.1 one)

pub bytes_more : {X : Type 0} (bytes : X → List ℕ) (xs : List X) (x : X) → flat_map bytes (xs ++ x ∷ []) ≡ flat_map bytes xs ++ bytes x
bytes_more bytes xs x = flat_map-append bytes xs (x ∷ []) ∙ ap (λ t. flat_map bytes xs ++ t) (append-nil (bytes x))

-- a talk so far: all replies to the items were written
pub record TalkedSo (bounds : Bounds) (depth : ℕ) (footing : Footing) (n answered : ℕ) (a now : Flow) (old sight : Sight) : Type 0 where
  pub items : List Item
  pub replies : List Reply
  pub items_are : AreItems bounds n items
  pub run : Steps (LookAnswers depth footing) old items replies sight
  pub count : answered ≡ n + length items
  pub lost : Loses a.left now.left (items_bytes items)
  pub gained : Gains a.written now.written (replies_bytes replies)

pub talked_none : (bounds : Bounds) (depth : ℕ) (footing : Footing) (n : ℕ) (a : Flow) (sight : Sight) → TalkedSo bounds depth footing n n a a sight sight
talked_none bounds depth footing n a sight = record {
  items = [];
  replies = [];
  items_are = record { each = tt; room = inl refl };
  run = refl;
  count = omega arith;
  lost = loses_nothing a.left;
  gained = gains_nothing a.written;
}

pub items_more : (bounds : Bounds) (n : ℕ) (items : List Item) (i : Item) → AreItems bounds n items → IsItem bounds i → n + length items < bounds.requests → AreItems bounds n (items ++ i ∷ [])
items_more bounds n items i are is more = record {
  each = each_more (IsItem bounds) items i are.each is;
  room = inr (omega (arith, length-append items (i ∷ [])));
}

pub lost_more : (a mid now : Flow) (items : List Item) (i : Item) → Loses a.left mid.left (items_bytes items) → Loses mid.left now.left (item_bytes i) → Loses a.left now.left (items_bytes (items ++ i ∷ []))
lost_more a mid now items i first more = subst (λ t. Loses a.left now.left t) (sym (bytes_more item_bytes items i)) (loses_on a.left mid.left now.left (items_bytes items) (item_bytes i) first more)

pub gained_more : (a mid now : Flow) (replies : List Reply) (reply : Reply) → Gains a.written mid.written (replies_bytes replies) → Gains mid.written now.written (reply_bytes reply) → Gains a.written now.written (replies_bytes (replies ++ reply ∷ []))
gained_more a mid now replies reply first more = subst (λ t. Gains a.written now.written t) (sym (bytes_more reply_bytes replies reply)) (goes_on a.written mid.written now.written (replies_bytes replies) (reply_bytes reply) first more)

pub gained_front : (a mid now : Flow) (replies : List Reply) (reply : Reply) → Gains a.written mid.written (replies_bytes replies) → GainsFront mid.written now.written (reply_bytes reply) → GainsFront a.written now.written (replies_bytes (replies ++ reply ∷ []))
gained_front a mid now replies reply first more = subst (λ t. GainsFront a.written now.written t) (sym (bytes_more reply_bytes replies reply)) (stops a.written mid.written now.written (replies_bytes replies) (reply_bytes reply) first more)

gained_no_more : (a mid now : Flow) (replies : List Reply) → Gains a.written mid.written (replies_bytes replies) → Gains mid.written now.written [] → Gains a.written now.written (replies_bytes replies)
gained_no_more a mid now replies first none = let e : replies_bytes replies ++ [] ≡ replies_bytes replies = append-nil (replies_bytes replies) in subst (λ t. Gains a.written now.written t) e (goes_on a.written mid.written now.written (replies_bytes replies) [] first none)

-- one more item was answered
talked_more : (bounds : Bounds) (depth : ℕ) (footing : Footing) (n answered : ℕ) (a mid now : Flow) (old sight new : Sight) → TalkedSo bounds depth footing n answered a mid old sight → answered < bounds.requests → TurnsOnce bounds depth footing mid now sight new → TalkedSo bounds depth footing n (answered + 1) a now old new
talked_more bounds depth footing n answered a mid now old sight new so few turn =
    let count : answered ≡ n + length so.items = so.count in
    record {
      items = so.items ++ turn.item ∷ [];
      replies = so.replies ++ turn.reply ∷ [];
      items_are = items_more bounds n so.items turn.item so.items_are turn.is (omega arith);
      run = steps_more (LookAnswers depth footing) old sight new so.items so.replies turn.item turn.reply so.run turn.says;
      count = omega (arith, length-append so.items (turn.item ∷ []));
      lost = lost_more a mid now so.items turn.item so.lost turn.lost;
      gained = gained_more a mid now so.replies turn.reply so.gained turn.gained;
    }

-- the same where the turn's look stands on the same
pub talked_more_on : (bounds : Bounds) (depth : ℕ) (footing other : Footing) (n answered : ℕ) (a mid now : Flow) (old sight new : Sight) → other ≡ footing → TalkedSo bounds depth footing n answered a mid old sight → answered < bounds.requests → TurnsOnce bounds depth other mid now sight new → TalkedSo bounds depth footing n (answered + 1) a now old new
talked_more_on bounds depth footing other n answered a mid now old sight new same so few turn =
    talked_more bounds depth footing n answered a mid now old sight new so few (subst (λ (f : Footing). TurnsOnce bounds depth f mid now sight new) same turn)

-- an edit was read
pub talk_pauses : (bounds : Bounds) (depth : ℕ) (footing : Footing) (n answered : ℕ) (a mid now : Flow) (old sight new : Sight) (batch : List Op) (expected : Option ℕ) → TalkedSo bounds depth footing n answered a mid old sight → answered < bounds.requests → TurnsToEdit bounds depth mid now batch expected → new ≡ sight → TalkIs bounds depth footing (pauses.Edit batch expected) n answered a now old new
talk_pauses bounds depth footing n answered a mid now old sight new batch expected so few turn seen =
    let count : answered ≡ n + length so.items = so.count in
    record {
      items = so.items;
      replies = so.replies;
      items_are = so.items_are;
      run = subst (λ s. Steps (LookAnswers depth footing) old so.items so.replies s) (sym seen) so.run;
      pauses = (
        record {
          item = turn.item;
          edit = turn.edit;
          in_time = omega arith;
          lost = loses_on a.left mid.left now.left (items_bytes so.items) (item_bytes turn.item) so.lost turn.lost;
          gained = gained_no_more a mid now so.replies so.gained turn.gained;
        },
        so.count,
      );
    }

-- as many were answered as may be
pub talk_spent : (bounds : Bounds) (depth : ℕ) (footing : Footing) (n answered : ℕ) (a now : Flow) (old sight : Sight) → TalkedSo bounds depth footing n answered a now old sight → bounds.requests ≤ answered → TalkIs bounds depth footing (pauses.Ended ends.Spent) n answered a now old sight
talk_spent bounds depth footing n answered a now old sight so all =
    let count : answered ≡ n + length so.items = so.count in
    record {
      items = so.items;
      replies = so.replies;
      items_are = so.items_are;
      run = so.run;
      pauses = (
        record {
          taken = [];
          closes = refl;
          in_time = omega arith;
          lost = let e : items_bytes so.items ++ [] ≡ items_bytes so.items = append-nil (items_bytes so.items) in subst (λ t. Loses a.left now.left t) (sym e) so.lost;
          gained = so.gained;
        },
        so.count,
      );
    }

run_seen : (depth : ℕ) (footing : Footing) (old sight new : Sight) (items : List Item) (replies : List Reply) → new ≡ sight → Steps (LookAnswers depth footing) old items replies sight → Steps (LookAnswers depth footing) old items replies new
run_seen depth footing old sight new items replies seen run = subst (λ s. Steps (LookAnswers depth footing) old items replies s) (sym seen) run

-- the input ended
ends_as : (bounds : Bounds) (ending : Ending) (depth : ℕ) (footing : Footing) (n answered : ℕ) (a mid now : Flow) (old sight new : Sight) (so : TalkedSo bounds depth footing n answered a mid old sight) → InTime bounds ending (n + length so.items) → TurnsToEnd bounds ending mid now sight new → EndsAs bounds ending (n + length so.items) a now so.items so.replies
ends_as bounds ending depth footing n answered a mid now old sight new so in_time turn = record {
  taken = turn.end.taken;
  closes = turn.end.closes;
  in_time = in_time;
  lost = loses_on a.left mid.left now.left (items_bytes so.items) turn.end.taken so.lost turn.end.lost;
  gained = gained_no_more a mid now so.replies so.gained turn.gained;
}

in_time_for : (bounds : Bounds) (depth : ℕ) (footing : Footing) (n answered : ℕ) (a mid : Flow) (old sight : Sight) (so : TalkedSo bounds depth footing n answered a mid old sight) → answered < bounds.requests → n + length so.items < bounds.requests
in_time_for bounds depth footing n answered a mid old sight so few = let count : answered ≡ n + length so.items = so.count in omega arith

pub rose_since : (a mid now : ℕ) → a ≤ mid → Rose mid now → Rose a now
rose_since a mid now later rose = omega arith

talk_ends : (bounds : Bounds) (end : End) (depth : ℕ) (footing : Footing) (n answered : ℕ) (a mid now : Flow) (old sight new : Sight) → a.read_faults ≤ mid.read_faults → a.write_faults ≤ mid.write_faults → TalkedSo bounds depth footing n answered a mid old sight → answered < bounds.requests → EndsTurn bounds depth footing end mid now sight new → TalkIs bounds depth footing (pauses.Ended end) n answered a now old new
talk_ends bounds ends.Quit depth footing n answered a mid now old sight new reads writes so few turn = record {
  items = so.items;
  replies = so.replies;
  items_are = so.items_are;
  run = run_seen depth footing old sight new so.items so.replies turn.seen so.run;
  pauses = (ends_as bounds quit depth footing n answered a mid now old sight new so (in_time_for bounds depth footing n answered a mid old sight so few) turn, so.count);
}
talk_ends bounds ends.Closed depth footing n answered a mid now old sight new reads writes so few turn = record {
  items = so.items;
  replies = so.replies;
  items_are = so.items_are;
  run = run_seen depth footing old sight new so.items so.replies turn.seen so.run;
  pauses = (ends_as bounds closed depth footing n answered a mid now old sight new so (in_time_for bounds depth footing n answered a mid old sight so few) turn, so.count);
}
talk_ends bounds ends.Cut depth footing n answered a mid now old sight new reads writes so few turn = record {
  items = so.items;
  replies = so.replies;
  items_are = so.items_are;
  run = run_seen depth footing old sight new so.items so.replies turn.seen so.run;
  pauses = (ends_as bounds cut depth footing n answered a mid now old sight new so (in_time_for bounds depth footing n answered a mid old sight so few) turn, so.count);
}
talk_ends bounds ends.TooLong depth footing n answered a mid now old sight new reads writes so few turn = record {
  items = so.items;
  replies = so.replies;
  items_are = so.items_are;
  run = run_seen depth footing old sight new so.items so.replies turn.seen so.run;
  pauses = (ends_as bounds too_long depth footing n answered a mid now old sight new so (in_time_for bounds depth footing n answered a mid old sight so few) turn, so.count);
}
talk_ends bounds ends.Spent depth footing n answered a mid now old sight new reads writes so few turn = absurd turn
talk_ends bounds ends.ReadFault depth footing n answered a mid now old sight new reads writes so few turn = record {
  items = so.items;
  replies = so.replies;
  items_are = so.items_are;
  run = run_seen depth footing old sight new so.items so.replies turn.seen so.run;
  pauses = (
    record {
      taken = turn.part.taken;
      part = turn.part.part;
      in_time = in_time_for bounds depth footing n answered a mid old sight so few;
      lost = loses_on a.left mid.left now.left (items_bytes so.items) turn.part.taken so.lost turn.part.lost;
      gained = gained_no_more a mid now so.replies so.gained turn.gained;
      rose = rose_since a.read_faults mid.read_faults now.read_faults reads turn.rose;
    },
    so.count,
  );
}
talk_ends bounds ends.WriteFault depth footing n answered a mid now old sight new reads writes so few turn = record {
  items = so.items ++ turn.item ∷ [];
  replies = so.replies ++ turn.reply ∷ [];
  items_are = items_more bounds n so.items turn.item so.items_are turn.is (in_time_for bounds depth footing n answered a mid old sight so few);
  run = steps_more (LookAnswers depth footing) old sight new so.items so.replies turn.item turn.reply so.run turn.says;
  pauses = (
    record {
      lost = lost_more a mid now so.items turn.item so.lost turn.lost;
      gained = gained_front a mid now so.replies turn.reply so.gained turn.gained;
      rose = rose_since a.write_faults mid.write_faults now.write_faults writes turn.rose;
    },
    omega (arith, so.count, length-append so.items (turn.item ∷ [])),
  );
}

pub talk_ends_on : (bounds : Bounds) (end : End) (depth : ℕ) (footing other : Footing) (n answered : ℕ) (a mid now : Flow) (old sight new : Sight) → other ≡ footing → a.read_faults ≤ mid.read_faults → a.write_faults ≤ mid.write_faults → TalkedSo bounds depth footing n answered a mid old sight → answered < bounds.requests → EndsTurn bounds depth other end mid now sight new → TalkIs bounds depth footing (pauses.Ended end) n answered a now old new
talk_ends_on bounds end depth footing other n answered a mid now old sight new same reads writes so few turn =
    talk_ends bounds end depth footing n answered a mid now old sight new reads writes so few (subst (λ (f : Footing). EndsTurn bounds depth f end mid now sight new) same turn)
