use Rattle.std.proofs.Common.{◌<◌, ℕ, IsTrue, IsFalse, sym, subst, refl, arith, get_or, length}
use Rattle.std.specs.Ordering.{nat_cmp}
use Rattle.std.specs.List.Sorted.{IsStrictlySortedBy}
use Rattle.smallvec.specs.SmallVec.{HasRoomFor}
use Rattle.ad_theory.specs.Numbers.{among}
use Rattle.ad_theory.proofs.Members.{not_both}
use Rattle.ad_slots.specs.Rising.{IsWith}
use Rattle.ad_flat.specs.Changes.{list_of}
use Rattle.ad_flat.proofs.ListLemmas.{among_at, with_twice, has_number, for_each, read_list, changed_more}
use Rattle.ad_flat.proofs.lists.enter_each.Goals as goal

pub index_mut-requires : goal.index_mut-requires
index_mut-requires c = let l = c.requires.below _ (among_at c.args.symbols.now c.loop-symbol.symbol-index c.loop-symbol-test.true) in omega (arith, l, c.loop-symbol.invariant.len)

pub enter-requires-clause-rising : goal.enter-requires-clause-rising
enter-requires-clause-rising c =
    let at : ℕ = get_or c.args.symbols.now c.loop-symbol.symbol-index 0 in
    let below : at < length c.loop-symbol.lists.items = omega (
      arith,
      c.requires.below _ (among_at c.args.symbols.now c.loop-symbol.symbol-index c.loop-symbol-test.true),
      c.loop-symbol.invariant.len,
      c.loop-symbol.lists.ok,
    ) in
    subst (λ l. IsStrictlySortedBy nat_cmp l.items) (sym (read_list c.loop-symbol.lists.items at c.index_mut.result.now below c.index_mut.ensures.value)) (c.loop-symbol.invariant.rising at)

pub enter-requires-clause-room : goal.enter-requires-clause-room
enter-requires-clause-room c =
    let at : ℕ = get_or c.args.symbols.now c.loop-symbol.symbol-index 0 in
    let stands = among_at c.args.symbols.now c.loop-symbol.symbol-index c.loop-symbol-test.true in
    let below : at < length c.loop-symbol.lists.items = omega (arith, c.requires.below _ stands, c.loop-symbol.invariant.len, c.loop-symbol.lists.ok) in
    subst (λ l. IsFalse (among l.items c.args.slot) → HasRoomFor l 1) (sym (read_list c.loop-symbol.lists.items at c.index_mut.result.now below c.index_mut.ensures.value)) (c.loop-symbol.invariant.room at stands)

pub loop-symbol-preserved : goal.loop-symbol-preserved
loop-symbol-preserved c =
    let symbols = c.args.symbols.now in
    let slot = c.args.slot in
    let before = c.loop-symbol.lists.items in
    let list = c.enter.new.list in
    let at : ℕ = get_or symbols c.loop-symbol.symbol-index 0 in
    let below : at < length before = omega (arith, c.requires.below _ (among_at symbols c.loop-symbol.symbol-index c.loop-symbol-test.true), c.loop-symbol.invariant.len, c.loop-symbol.lists.ok) in
    let made : IsWith slot (list_of before at) list.items = subst (λ l. IsWith slot l.items list.items) (read_list before at c.index_mut.result.now below c.index_mut.ensures.value) c.enter.ensures in
    record {
      len = c.loop-symbol.invariant.len;
      rising = for_each before at list below (λ s l. IsStrictlySortedBy nat_cmp l.items) made.rising (λ s other. c.loop-symbol.invariant.rising s);
      room = for_each before at list below (λ s l. IsTrue (among symbols s) → IsFalse (among l.items slot) → HasRoomFor l 1)
          (λ t f. absurd (not_both (has_number slot (list_of before at) list.items made) f)) (λ s other. c.loop-symbol.invariant.room s);
      changed = changed_more before at list below (IsWith slot) (with_twice slot) symbols c.loop-symbol.symbol-index c.args.lists.now.items c.loop-symbol-test.true refl made c.loop-symbol.invariant.changed;
    }
