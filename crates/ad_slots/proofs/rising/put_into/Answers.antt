use Rattle.std.proofs.Common.{◌≡◌, List, ℕ, sym, subst, ap, ◌∙◌, cond}
use Rattle.std.specs.List.{insert}
use Rattle.ad_slots.specs.Rising.{IsWith}
use Rattle.ad_slots.proofs.RisingLemmas.{found_with, lost_with}
use Rattle.ad_slots.proofs.rising.put_into.Goals as goal

pub returns-in-Ok-clause-items : goal.returns-in-Ok-clause-items
returns-in-Ok-clause-items c = found_with c.args.list.now.items c.deref.result.now c.args.n c.in-Ok.field-0 c.deref.ensures.value c.requires.rising c.in-Ok.ensures.position

pub returns-in-Err-clause-items : goal.returns-in-Err-clause-items
returns-in-Err-clause-items c = subst (λ xs. IsWith c.args.n c.args.list.now.items xs)
    (sym (c.insert-put.ensures.items ∙ ap (λ b. cond b (insert c.args.list.now.items c.in-Err.at c.args.n) c.args.list.now.items) (c.insert-put.ensures.succeeds c.requires.room)))
    (lost_with c.args.list.now.items c.deref.result.now c.args.n c.in-Err.at c.deref.ensures.value c.requires.rising c.in-Err.ensures.position)
