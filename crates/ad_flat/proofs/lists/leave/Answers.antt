use Rattle.std.proofs.Common.{sym, subst}
use Rattle.ad_slots.specs.Rising.{IsWithout}
use Rattle.ad_slots.proofs.RisingLemmas.{found_without, lost_without}
use Rattle.ad_flat.proofs.lists.leave.Goals as goal

pub returns-in-Ok : goal.returns-in-Ok
returns-in-Ok c = subst (λ xs. IsWithout c.args.n c.args.list.now.items xs) (sym c.remove.ensures.items)
    (found_without c.args.list.now.items c.as_slice.result.now c.args.n c.in-Ok.at c.as_slice.ensures c.requires c.in-Ok.ensures.position)

pub returns-in-Err : goal.returns-in-Err
returns-in-Err c = lost_without c.args.list.now.items c.as_slice.result.now c.args.n c.in-Err.field-0 c.as_slice.ensures c.requires c.in-Err.ensures.position
