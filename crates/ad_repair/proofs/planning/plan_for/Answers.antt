-- The tasks of the three kinds, one after the other.
use Rattle.std.proofs.Common.{ℕ, Bool, length, sym, subst, arith}
use Rattle.ad_base.specs.declared.limits.Kind.{Kind}
use Rattle.ad_base.specs.declared.limits.Kind.TheVariants.{Bottom, Top, Star}
use Rattle.ad_bits.specs.Rows.{has}
use Rattle.ad_repair.specs.Marks.{marked_of}
use Rattle.ad_repair.specs.Plans.{AreTasks, AreOfKind, IsPlanOf, Planned}
use Rattle.ad_repair.proofs.TaskLemmas.{all_tasks, all_planned, longer, numbers_below}
use Rattle.ad_repair.proofs.planning.plan_for.Goals as goal

pub append_for-requires-clause-wanted : goal.append_for-requires-clause-wanted
append_for-requires-clause-wanted g c = c.requires Bottom

pub append_for-requires-2-clause-wanted : goal.append_for-requires-2-clause-wanted
append_for-requires-2-clause-wanted g c = c.requires Top

pub append_for-requires-3-clause-wanted : goal.append_for-requires-3-clause-wanted
append_for-requires-3-clause-wanted g c = c.requires Star

pub of-requires-clause-bottom : goal.of-requires-clause-bottom
of-requires-clause-bottom g c =
    let symbols = g.U.Universe.symbols_of c.args.new.now in
    let marks = c.args.marks.now in
    let a = c.append_for.new.tasks.items in
    let b = c.append_for-2.new.tasks.items in
    let end = c.append_for-3.new.tasks.items in
    let more = longer symbols Top (has marks.top) a b c.in_ok-top.top.items c.in_ok-top.ensures.tasks in
    let most = longer symbols Star (has marks.star) b end c.in_ok-star.star.items c.in_ok-star.ensures.tasks in
    numbers_below symbols Bottom (has marks.bottom) c.new-tasks.result.items a c.in_ok-bottom.bottom.items c.in_ok-bottom.ensures.tasks (length end) (omega (arith, more, most))

pub of-requires-clause-top : goal.of-requires-clause-top
of-requires-clause-top g c =
    let symbols = g.U.Universe.symbols_of c.args.new.now in
    let marks = c.args.marks.now in
    let a = c.append_for.new.tasks.items in
    let b = c.append_for-2.new.tasks.items in
    let end = c.append_for-3.new.tasks.items in
    numbers_below symbols Top (has marks.top) a b c.in_ok-top.top.items c.in_ok-top.ensures.tasks (length end)
    (longer symbols Star (has marks.star) b end c.in_ok-star.star.items c.in_ok-star.ensures.tasks)

pub of-requires-clause-star : goal.of-requires-clause-star
of-requires-clause-star g c =
    let symbols = g.U.Universe.symbols_of c.args.new.now in
    let end = c.append_for-3.new.tasks.items in
    numbers_below symbols Star (has c.args.marks.now.star) c.append_for-2.new.tasks.items end c.in_ok-star.star.items c.in_ok-star.ensures.tasks (length end) (omega arith)

pub returns-clause-tasks : goal.returns-clause-tasks
returns-clause-tasks g c =
    let symbols = g.U.Universe.symbols_of c.args.new.now in
    let W : Kind → ℕ → Bool = λ kind. has (marked_of c.args.marks.now kind) in
    let a = c.append_for.new.tasks.items in
    let b = c.append_for-2.new.tasks.items in
    let end = c.append_for-3.new.tasks.items in
    let bottom = subst (λ l. AreOfKind symbols (W Bottom) Bottom l a c.in_ok-bottom.bottom.items) c.new-tasks.ensures.items c.in_ok-bottom.ensures.tasks in
    subst (λ (p : Planned). AreTasks symbols W p.tasks) (sym c.of.ensures)
    (all_tasks symbols W a b end c.in_ok-bottom.bottom.items c.in_ok-top.top.items c.in_ok-star.star.items bottom c.in_ok-top.ensures.tasks c.in_ok-star.ensures.tasks)

pub returns-clause-numbers : goal.returns-clause-numbers
returns-clause-numbers g c =
    let symbols = g.U.Universe.symbols_of c.args.new.now in
    let W : Kind → ℕ → Bool = λ kind. has (marked_of c.args.marks.now kind) in
    let a = c.append_for.new.tasks.items in
    let b = c.append_for-2.new.tasks.items in
    let end = c.append_for-3.new.tasks.items in
    let plan : Planned = record { tasks = end; kept = c.args.kept; bottom = c.in_ok-bottom.bottom.items; top = c.in_ok-top.top.items; star = c.in_ok-star.star.items } in
    let bottom = subst (λ l. AreOfKind symbols (W Bottom) Bottom l a c.in_ok-bottom.bottom.items) c.new-tasks.ensures.items c.in_ok-bottom.ensures.tasks in
    subst (IsPlanOf symbols W) (sym c.of.ensures) (all_planned symbols W plan a b bottom c.in_ok-top.ensures.tasks c.in_ok-star.ensures.tasks)
