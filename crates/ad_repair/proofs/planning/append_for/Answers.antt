-- The tasks are those of the groups' first slots.
use Rattle.std.proofs.Common.{◌≡◌, ◌∙◌, ◌+◌, ◌<◌, ◌++◌, None, length, slice_index_or, ap, subst, rules}
use Rattle.std.specs.Option.{option_map}
use Rattle.ad_bits.specs.Rows.{has}
use Rattle.ad_bits.proofs.Rows.{within_size}
use Rattle.ad_repair.specs.Plans.{tasks_for}
use Rattle.ad_repair.proofs.TaskLemmas.{grouped_tasks}
use Rattle.ad_repair.proofs.planning.append_for.Goals as goal

pub returns-clause-tasks : goal.returns-clause-tasks
returns-clause-tasks g c =
    let u = c.args.new.now in
    let wanted = c.args.wanted.now in
    let tasks = c.args.tasks.now.items in
    let grouping = c.in_ok-grouping.grouping in
    let start : c.len.result ≡ length tasks = search rules in
    grouped_tasks (g.U.Universe.symbols_of u) (has wanted) c.args.kind (g.U.Universe.slot_count u) c.len.result grouping.groups.items c.in_ok-numbers.numbers.items grouping.firsts.items
    tasks c.append.new.tasks.items c.in_ok-grouping.ensures (λ i w. subst (λ n. i < n) c.requires.wanted (within_size wanted i w)) start
    (λ i. c.in_ok-numbers.ensures i ∙ ap (λ l. option_map (λ k. c.len.result + k) (slice_index_or l i None)) c.deref.ensures.value)
    (c.in_ok-append.ensures ∙ ap (λ l. tasks ++ tasks_for c.args.kind l) c.deref-2.ensures.value)
