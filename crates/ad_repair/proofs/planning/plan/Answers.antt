-- The marked slots are those whose modules are to be found, and the rows of the others stay.
use Rattle.std.proofs.Common.{◌∙◌, ◌<◌, ◌&&◌, not, length, sym, ap, subst}
use Rattle.ad_tables.specs.Rows.{of_kind, row_of}
use Rattle.ad_repair.specs.Changes.{theory_of, change_of}
use Rattle.ad_repair.specs.Plans.{AreTasks, IsPlanOf, row_where}
use Rattle.ad_repair.proofs.ListLemmas.{ok_then, ok_both}
use Rattle.ad_repair.proofs.PlanLemmas.{plan_is}
use Rattle.ad_repair.proofs.planning.plan.Goals as goal

pub returns-clause-tasks : goal.returns-clause-tasks
returns-clause-tasks g c =
    let members = c.in_ok-marks.ensures.members in
    ok_then c.plan_for.result _ _ c.plan_for.ensures.tasks (λ plan t. subst (λ w. AreTasks (g.U.Universe.symbols_of c.args.new.now) w plan.tasks) (λ j kind i. members kind i j) t)

pub returns-clause-plan : goal.returns-clause-plan
returns-clause-plan g c =
    let old = c.args.old.now in
    let new = c.args.new.now in
    let rows = c.args.rows.now in
    let before = theory_of (g.U.Universe.symbols_of old) (g.U.Universe.is_local old) (g.U.Universe.is_live old) in
    let after = theory_of (g.U.Universe.symbols_of new) (g.U.Universe.is_local new) (g.U.Universe.is_live new) in
    let change = change_of before after c.args.removed.now c.args.added.now (g.U.Universe.slot_count old) in
    let members = c.in_ok-marks.ensures.members in
    let kept = c.in_ok-kept.ensures in
    ok_both c.plan_for.result _ _ _ c.plan_for.ensures.numbers c.plan_for.ensures.kept (λ plan of same.
    plan_is change c.requires.change (λ side. g.met.U.Universe.antitone old side) (λ side. g.met.U.Universe.antitone new side)
    (λ k live. subst (λ n. k < n) (sym c.requires.slots) (g.met.U.Universe.live_below new k live)) rows c.requires.genuine (g.U.Universe.slot_count new) plan (sym c.requires.slots)
    (λ kind. ap (λ t. length (of_kind t kind)) same ∙ kept.long kind)
    (λ kind i l. ap (λ t. row_of t kind i) same ∙ kept.rows kind i l ∙ ap (λ b. row_where (g.U.Universe.is_live new i && not b) (row_of rows kind i)) (members kind i))
    (subst (λ w. IsPlanOf (g.U.Universe.symbols_of new) w plan) (λ j kind i. members kind i j) of))
