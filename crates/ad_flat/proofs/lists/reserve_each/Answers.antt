use Rattle.std.proofs.Common.{◌≡◌, ◌<◌, ℕ, ap, ◌∙◌, refl, arith, get_or, length}
use Rattle.ad_flat.specs.Changes.{list_of}
use Rattle.ad_flat.proofs.ListLemmas.{among_at, same_lists, room_more, read_list}
use Rattle.ad_flat.proofs.lists.reserve_each.Goals as goal

pub index_mut-requires : goal.index_mut-requires
index_mut-requires c = let l = c.requires _ (among_at c.args.symbols.now c.loop-symbol.symbol-index c.loop-symbol-test.true) in omega (arith, l, c.loop-symbol.invariant.len)

pub loop-symbol-preserved : goal.loop-symbol-preserved
loop-symbol-preserved c =
    let symbols = c.args.symbols.now in
    let before = c.loop-symbol.lists.items in
    let list = c.reserve.new.self in
    let at : ℕ = get_or symbols c.loop-symbol.symbol-index 0 in
    let below : at < length before = omega (arith, c.requires _ (among_at symbols c.loop-symbol.symbol-index c.loop-symbol-test.true), c.loop-symbol.invariant.len, c.loop-symbol.lists.ok) in
    let same : list.items ≡ list_of before at = c.reserve.ensures.items ∙ ap (λ l. l.items) (read_list before at c.index_mut.result.now below c.index_mut.ensures.value) in
    record {
      len = c.loop-symbol.invariant.len;
      same = λ s. same_lists before at list below same s ∙ c.loop-symbol.invariant.same s;
      room = room_more symbols c.loop-symbol.symbol-index at before list below c.loop-symbol-test.true refl c.in_ok-reserve.ensures.ok c.loop-symbol.invariant.room;
    }
