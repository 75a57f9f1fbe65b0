-- Rounds of a session, one after the other, whatever their steps.
use Rattle.std.proofs.Common.{◌≡◌, ◌⊎◌, inl, inr, ℕ, ◌+◌, ◌-◌, ◌^◌, ◌<◌, ◌≤◌, min, List, [], ◌∷◌, ◌++◌, Option, None, Some, IfSome, length, refl, sym, ◌∙◌, ap, subst, arith, length-append, append_assoc}
use Rattle.std.specs.List.{AllByRecursion}
use Rattle.std.proofs.lemmas.List.{append-nil}
use Rattle.std.proofs.lemmas.Grind.{flat_map-append}
use Rattle.ad_io.specs.Flow.{Loses, Gains, GainsFront}
use Rattle.ad_io.specs.Sink.{Puts, PutCause}
use Rattle.ad_io.proofs.FlowLemmas.{gains_nothing, goes_on, stops, loses_nothing, loses_on}
use Rattle.ad_items.specs.Items.{Bounds, Item, item_bytes, IsItem, AreItems, Ending, InTime}
use Rattle.ad_tree.specs.declared.edits.Op.{Op}
use Rattle.ad_reply.specs.Replies.{Reply, reply_bytes}
use Rattle.ad_session.specs.declared.ends.End.{End}
use Rattle.ad_session.specs.declared.ends.End.TheVariants as ends
use Rattle.ad_session.specs.Flows.{Flow}
use Rattle.ad_session.specs.Steps.{Steps}
use Rattle.ad_session.specs.Ends.{items_bytes, replies_bytes, EndsAs, EndsSo, SessionIs}
use Rattle.ad_session.specs.Talks.{PausesAt}
use Rattle.ad_session.specs.Rounds.{RoundEnds, RoundIs}
use Rattle.ad_session.specs.Turns.{wrote_of, count_after}
use Rattle.ad_session.proofs.TalkLemmas.{steps_more, steps_join, rose_since, items_more, bytes_more, gained_more, gained_front}

lost_join : (a mid b : Flow) (items : List Item) (more : List ℕ) (others : List Item) → Loses a.left mid.left (items_bytes items) → Loses mid.left b.left (items_bytes others ++ more) → Loses a.left b.left (items_bytes (items ++ others) ++ more)
lost_join a mid b items more others first then_ =
    subst (λ t. Loses a.left b.left t) (sym (append_assoc (items_bytes items) (items_bytes others) more) ∙ ap (λ t. t ++ more) (sym (flat_map-append item_bytes items others)))
    (loses_on a.left mid.left b.left (items_bytes items) (items_bytes others ++ more) first then_)

lost_joined : (a mid b : Flow) (items others : List Item) → Loses a.left mid.left (items_bytes items) → Loses mid.left b.left (items_bytes others) → Loses a.left b.left (items_bytes (items ++ others))
lost_joined a mid b items others first then_ = subst (λ t. Loses a.left b.left t) (sym (flat_map-append item_bytes items others)) (loses_on a.left mid.left b.left (items_bytes items) (items_bytes others) first then_)

gained_join : (a mid b : Flow) (replies others : List Reply) → Gains a.written mid.written (replies_bytes replies) → Gains mid.written b.written (replies_bytes others) → Gains a.written b.written (replies_bytes (replies ++ others))
gained_join a mid b replies others first then_ = subst (λ t. Gains a.written b.written t) (sym (flat_map-append reply_bytes replies others)) (goes_on a.written mid.written b.written (replies_bytes replies) (replies_bytes others) first then_)

gained_join_front : (a mid b : Flow) (replies others : List Reply) → Gains a.written mid.written (replies_bytes replies) → GainsFront mid.written b.written (replies_bytes others) → GainsFront a.written b.written (replies_bytes (replies ++ others))
gained_join_front a mid b replies others first then_ = subst (λ t. GainsFront a.written b.written t) (sym (flat_map-append reply_bytes replies others)) (stops a.written mid.written b.written (replies_bytes replies) (replies_bytes others) first then_)

each_join : {X : Type 0} (P : X → Type 0) (xs ys : List X) → AllByRecursion P xs → AllByRecursion P ys → AllByRecursion P (xs ++ ys)
each_join P [] ys all more = more
each_join P (x ∷ xs) ys all more = (all.0, each_join P xs ys all.1 more)

-- items, and more items after them
items_join : (bounds : Bounds) (n m : ℕ) (items others : List Item) → AreItems bounds n items → AreItems bounds m others → m ≡ n + length items → AreItems bounds n (items ++ others)
items_join bounds n m items others is more e = record {
  each = each_join (IsItem bounds) items others is.each more.each;
  room = elim more.room [
    | inl none ↦ subst (λ (xs : List Item). (xs ≡ []) ⊎ (n + length xs ≤ bounds.requests)) (sym (ap (λ (xs : List Item). items ++ xs) none ∙ append-nil items)) is.room
    | inr few ↦ inr (omega (arith, length-append items others))
  ];
}

-- the rounds so far: all replies to the items were written
pub record RoundsSo {P : Type 0} (step : P → Item → Reply → P → Type 0) (bounds : Bounds) (answered : ℕ) (a now : Flow) (old new : P) : Type 0 where
  pub items : List Item
  pub replies : List Reply
  pub items_are : AreItems bounds 0 items
  pub run : Steps step old items replies new
  pub count : answered ≡ length items
  pub lost : Loses a.left now.left (items_bytes items)
  pub gained : Gains a.written now.written (replies_bytes replies)

pub rounds_none : {P : Type 0} (step : P → Item → Reply → P → Type 0) (bounds : Bounds) (a : Flow) (old : P) → RoundsSo step bounds 0 a a old old
rounds_none step bounds a old = record {
  items = [];
  replies = [];
  items_are = record { each = tt; room = inl refl };
  run = refl;
  count = refl;
  lost = loses_nothing a.left;
  gained = gains_nothing a.written;
}

rounds_more : {P : Type 0} (step : P → Item → Reply → P → Type 0) (bounds : Bounds) (answered next : ℕ) (a mid now : Flow) (old between new : P) → RoundsSo step bounds answered a mid old between → RoundIs step bounds None answered next mid now between new → RoundsSo step bounds next a now old new
rounds_more step bounds answered next a mid now old between new so round =
    let count : answered ≡ length so.items = so.count in
    let counted : next ≡ answered + length round.items = round.ends.counted in
    record {
      items = so.items ++ round.items;
      replies = so.replies ++ round.replies;
      items_are = items_join bounds 0 answered so.items round.items so.items_are round.items_are (omega arith);
      run = steps_join step old between new so.items round.items so.replies round.replies so.run round.run;
      count = omega (arith, length-append so.items round.items);
      lost = lost_joined a mid now so.items round.items so.lost round.ends.lost;
      gained = gained_join a mid now so.replies round.replies so.gained round.ends.gained;
    }

-- the same where the round has the same bounds
pub rounds_more_in : {P : Type 0} (step : P → Item → Reply → P → Type 0) (bounds other : Bounds) (answered next : ℕ) (a mid now : Flow) (old between new : P) → other ≡ bounds → RoundsSo step bounds answered a mid old between → RoundIs step other None answered next mid now between new → RoundsSo step bounds next a now old new
rounds_more_in step bounds other answered next a mid now old between new same so round =
    rounds_more step bounds answered next a mid now old between new so (subst (λ (b : Bounds). RoundIs step b None answered next mid now between new) same round)

-- a round that goes on answers more, within the bound
pub round_within : {P : Type 0} (step : P → Item → Reply → P → Type 0) (bounds : Bounds) (before next : ℕ) (a b : Flow) (old new : P) → RoundIs step bounds None before next a b old new → (before < next) × (next ≤ bounds.requests)
round_within step bounds before next a b old new round =
    let counted : next ≡ before + length round.items = round.ends.counted in
    let more : before < next = round.ends.more in (
      more,
      elim round.items_are.room [
        | inl none ↦ absurd (omega (arith, ap length none))
        | inr few ↦ omega arith
      ],
    )

ends_join : (bounds : Bounds) (ending : Ending) (count total : ℕ) (a mid b : Flow) (items others : List Item) (replies more : List Reply) → count ≡ total → Loses a.left mid.left (items_bytes items) → Gains a.written mid.written (replies_bytes replies) → EndsAs bounds ending count mid b others more → EndsAs bounds ending total a b (items ++ others) (replies ++ more)
ends_join bounds ending count total a mid b items others replies more e lost gained ends_as = record {
  taken = ends_as.taken;
  closes = ends_as.closes;
  in_time = subst (λ n. InTime bounds ending n) e ends_as.in_time;
  lost = lost_join a mid b items ends_as.taken others lost ends_as.lost;
  gained = gained_join a mid b replies more gained ends_as.gained;
}

ends_so_join : (bounds : Bounds) (end : End) (count total : ℕ) (a mid b : Flow) (items others : List Item) (replies more : List Reply) → count ≡ total → a.read_faults ≤ mid.read_faults → a.write_faults ≤ mid.write_faults → Loses a.left mid.left (items_bytes items) → Gains a.written mid.written (replies_bytes replies) → EndsSo bounds end count mid b others more → EndsSo bounds end total a b (items ++ others) (replies ++ more)
ends_so_join bounds ends.Quit count total a mid b items others replies more e reads writes lost gained h = ends_join bounds _ count total a mid b items others replies more e lost gained h
ends_so_join bounds ends.Closed count total a mid b items others replies more e reads writes lost gained h = ends_join bounds _ count total a mid b items others replies more e lost gained h
ends_so_join bounds ends.Cut count total a mid b items others replies more e reads writes lost gained h = ends_join bounds _ count total a mid b items others replies more e lost gained h
ends_so_join bounds ends.TooLong count total a mid b items others replies more e reads writes lost gained h = ends_join bounds _ count total a mid b items others replies more e lost gained h
ends_so_join bounds ends.Spent count total a mid b items others replies more e reads writes lost gained h = ends_join bounds _ count total a mid b items others replies more e lost gained h
ends_so_join bounds ends.ReadFault count total a mid b items others replies more e reads writes lost gained h = record {
  taken = h.taken;
  part = h.part;
  in_time = subst (λ n. n < bounds.requests) e h.in_time;
  lost = lost_join a mid b items h.taken others lost h.lost;
  gained = gained_join a mid b replies more gained h.gained;
  rose = rose_since a.read_faults mid.read_faults b.read_faults reads h.rose;
}
ends_so_join bounds ends.WriteFault count total a mid b items others replies more e reads writes lost gained h = record {
  lost = lost_joined a mid b items others lost h.lost;
  gained = gained_join_front a mid b replies more gained h.gained;
  rose = rose_since a.write_faults mid.write_faults b.write_faults writes h.rose;
}

-- the last round
rounds_end : {P : Type 0} (step : P → Item → Reply → P → Type 0) (bounds : Bounds) (answered next : ℕ) (end : End) (a mid now : Flow) (old between new : P) → RoundsSo step bounds answered a mid old between → a.read_faults ≤ mid.read_faults → a.write_faults ≤ mid.write_faults → RoundIs step bounds (Some end) answered next mid now between new → SessionIs step bounds end a now old new
rounds_end step bounds answered next end a mid now old between new so reads writes round =
    let count : answered ≡ length so.items = so.count in
    record {
      items = so.items ++ round.items;
      replies = so.replies ++ round.replies;
      items_are = items_join bounds 0 answered so.items round.items so.items_are round.items_are (omega arith);
      run = steps_join step old between new so.items round.items so.replies round.replies so.run round.run;
      ending = ends_so_join bounds end (answered + length round.items) (length (so.items ++ round.items)) a mid now so.items round.items so.replies round.replies (omega (arith, length-append so.items round.items)) reads writes so.lost so.gained round.ends;
    }

-- the same where the round has the same bounds
pub rounds_end_in : {P : Type 0} (step : P → Item → Reply → P → Type 0) (bounds other : Bounds) (answered next : ℕ) (end : End) (a mid now : Flow) (old between new : P) → other ≡ bounds → RoundsSo step bounds answered a mid old between → a.read_faults ≤ mid.read_faults → a.write_faults ≤ mid.write_faults → RoundIs step other (Some end) answered next mid now between new → SessionIs step bounds end a now old new
rounds_end_in step bounds other answered next end a mid now old between new same so reads writes round =
    rounds_end step bounds answered next end a mid now old between new so reads writes (subst (λ (b : Bounds). RoundIs step b (Some end) answered next mid now between new) same round)

-- items, and the edit behind them
lost_edit : (bounds : Bounds) (depth count : ℕ) (a mid now : Flow) (items : List Item) (replies : List Reply) (ops : List Op) (expected : Option ℕ) (p : PausesAt bounds depth count a mid items replies ops expected) → now.left ≡ mid.left → Loses a.left now.left (items_bytes (items ++ p.item ∷ []))
lost_edit bounds depth count a mid now items replies ops expected p left =
    subst (λ (l : Option (List ℕ)). Loses a.left l (items_bytes (items ++ p.item ∷ []))) (sym left) (subst (λ t. Loses a.left mid.left t) (sym (bytes_more item_bytes items p.item)) p.lost)

edit_ends : (bounds : Bounds) (depth before next : ℕ) (end : Option End) (a mid now : Flow) (items : List Item) (replies : List Reply) (ops : List Op) (expected : Option ℕ) (reply : Reply)
    → (p : PausesAt bounds depth (before + length items) a mid items replies ops expected) → now.left ≡ mid.left → a.write_faults ≤ mid.write_faults → Puts mid.written now.written (wrote_of end) (reply_bytes reply) → PutCause mid.write_faults now.write_faults (wrote_of end) → bounds.requests ≤ 4294967295 → next ≡ count_after end (before + length items) → IfSome end (λ e. e ≡ ends.WriteFault)
    → RoundEnds bounds end before next (before + length (items ++ p.item ∷ [])) a now (items ++ p.item ∷ []) (replies ++ reply ∷ [])
edit_ends bounds depth before next None a mid now items replies ops expected reply p left later puts cause few counted fault = record {
  counted = let next_is : next ≡ min (before + length items + 1) (2 ^ 32 - 1) = counted in omega (arith, length-append items (p.item ∷ []), p.in_time);
  more = let next_is : next ≡ min (before + length items + 1) (2 ^ 32 - 1) = counted in omega (arith, p.in_time);
  lost = lost_edit bounds depth (before + length items) a mid now items replies ops expected p left;
  gained = gained_more a mid now replies reply p.gained puts;
}
edit_ends bounds depth before next (Some e) a mid now items replies ops expected reply p left later puts cause few counted fault =
    subst (λ (x : End). EndsSo bounds x (before + length (items ++ p.item ∷ [])) a now (items ++ p.item ∷ []) (replies ++ reply ∷ [])) (sym fault) (record {
      lost = lost_edit bounds depth (before + length items) a mid now items replies ops expected p left;
      gained = gained_front a mid now replies reply p.gained puts;
      rose = rose_since a.write_faults mid.write_faults now.write_faults later (cause.failed refl);
    })

-- items up to an edit, and the edit's reply or a front of it
pub round_of_edit : {P : Type 0} (step : P → Item → Reply → P → Type 0) (bounds : Bounds) (depth before next : ℕ) (end : Option End) (a mid now : Flow) (old between new : P) (items : List Item) (replies : List Reply) (ops : List Op) (expected : Option ℕ) (reply : Reply)
    → AreItems bounds before items → Steps step old items replies between → (p : PausesAt bounds depth (before + length items) a mid items replies ops expected) → step between p.item reply new
    → now.left ≡ mid.left → a.write_faults ≤ mid.write_faults → Puts mid.written now.written (wrote_of end) (reply_bytes reply) → PutCause mid.write_faults now.write_faults (wrote_of end) → bounds.requests ≤ 4294967295 → next ≡ count_after end (before + length items) → IfSome end (λ e. e ≡ ends.WriteFault)
    → RoundIs step bounds end before next a now old new
round_of_edit step bounds depth before next end a mid now old between new items replies ops expected reply are run p answers left later puts cause few counted fault = record {
  items = items ++ p.item ∷ [];
  replies = replies ++ reply ∷ [];
  items_are = items_more bounds before items p.item are p.edit.is p.in_time;
  run = steps_more step old between new items replies p.item reply run answers;
  ends = edit_ends bounds depth before next end a mid now items replies ops expected reply p left later puts cause few counted fault;
}
