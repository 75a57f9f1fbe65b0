use Rattle.std.proofs.Common.{sym, subst}
use Rattle.ad_slots.specs.Rising.{IsWith}
use Rattle.ad_slots.proofs.RisingLemmas.{found_with, lost_with, lost_without}
use Rattle.ad_flat.proofs.ListLemmas.{done_as, missing}
use Rattle.ad_flat.proofs.lists.enter.Goals as goal

pub returns-in-Ok : goal.returns-in-Ok
returns-in-Ok c = found_with c.args.list.now.items c.as_slice.result.now c.args.n c.in-Ok.field-0 c.as_slice.ensures c.requires.rising c.in-Ok.ensures.position

pub returns-in-Err : goal.returns-in-Err
returns-in-Err c =
    let none = missing c.args.n c.args.list.now.items (lost_without c.args.list.now.items c.as_slice.result.now c.args.n c.in-Err.at c.as_slice.ensures c.requires.rising c.in-Err.ensures.position) in
    subst (λ xs. IsWith c.args.n c.args.list.now.items xs) (sym (done_as c.insert-put.result _ (c.insert-put.ensures.succeeds (c.requires.room none)) c.insert-put.ensures.ok))
    (lost_with c.args.list.now.items c.as_slice.result.now c.args.n c.in-Err.at c.as_slice.ensures c.requires.rising c.in-Err.ensures.position)
