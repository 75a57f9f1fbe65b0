-- Each slot with a task has its result, and the others the rows that stay.
use Rattle.std.proofs.Common.{◌∙◌, [], None, slice_index_or, sym, ap, subst}
use Rattle.std.specs.Option.{option_map}
use Rattle.ad_base.specs.declared.limits.Kind.TheVariants.{Bottom, Top, Star}
use Rattle.ad_repair.specs.contracts.planned.Plan.{the_view}
use Rattle.ad_repair.specs.Plans.{Planned, AreResults, IsPlanFor}
use Rattle.ad_repair.proofs.PlanLemmas.{joined_filled}
use Rattle.ad_repair.proofs.planned.Plan.join.Goals as goal

pub returns : goal.returns
returns c = λ theory slots plan_for results_for.
    let plan : Planned = the_view c.self.inside in
    let results = c.args.results in
    let is : IsPlanFor theory slots plan = subst (IsPlanFor theory slots) (sym c.self.view_is) plan_for in
    let are : AreResults theory slots plan.tasks results = subst (λ (p : Planned). AreResults theory slots p.tasks results) (sym c.self.view_is) results_for in
    let bottom = c.in_ok-fill.ensures in
    let top = c.in_ok-fill-2.ensures in
    let star = c.in_ok-fill-3.ensures in
    joined_filled theory slots plan is results are c.fill.new.rows c.fill-2.new.rows c.fill-3.new.rows _ _ _ _ _ _ bottom top star
    (is.long Bottom) (bottom.long Top ∙ is.long Top) (top.long Star ∙ bottom.long Star ∙ is.long Star)
    (λ i. ap (λ l. option_map (λ t. slice_index_or results t []) (slice_index_or l i None)) c.deref.ensures.value)
    (λ i. ap (λ l. option_map (λ t. slice_index_or results t []) (slice_index_or l i None)) c.deref-2.ensures.value)
    (λ i. ap (λ l. option_map (λ t. slice_index_or results t []) (slice_index_or l i None)) c.deref-3.ensures.value)
