use Rattle.std.proofs.Common.{◌≡◌, List, ℕ, sym, subst, ap, ◌∙◌}
use Rattle.std.specs.Prelude.{Ok, Err}
use Rattle.std.specs.Ordering.{nat_cmp}
use Rattle.std.specs.List.Sorted.{IsBinarySearchResult}
use Rattle.ad_slots.specs.Rising.{IsWithout}
use Rattle.ad_slots.proofs.RisingLemmas.{found_without, lost_without}
use Rattle.ad_slots.proofs.rising.drop_from.Goals as goal

pub returns-in-Ok-clause-items : goal.returns-in-Ok-clause-items
returns-in-Ok-clause-items c = subst (λ xs. IsWithout c.args.n c.args.list.now.items xs) (sym c.remove.ensures.items)
    (found_without c.args.list.now.items c.deref.result.now c.args.n c.in-Ok.at c.deref.ensures.value c.requires.rising c.in-Ok.ensures.position)

pub returns-in-Err-clause-items : goal.returns-in-Err-clause-items
returns-in-Err-clause-items c = lost_without c.args.list.now.items c.deref.result.now c.args.n c.in-Err.field-0 c.deref.ensures.value c.requires.rising c.in-Err.ensures.position
