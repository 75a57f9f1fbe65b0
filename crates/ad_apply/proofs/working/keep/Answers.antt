-- One more axiom is kept or passed over.
use Rattle.std.proofs.Common.{◌∙◌, arith}
use Rattle.std.specs.Arc.{arc_value}
use Rattle.ad_syntax_laws.specs.OntologyModule.{values}
use Rattle.ad_apply.specs.Places.{place_in}
use Rattle.ad_apply.proofs.WorkingLemmas.{keep_more, value_at, length-values}
use Rattle.ad_apply.proofs.working.keep.Goals as goal

pub loop-i-preserved : goal.loop-i-preserved
loop-i-preserved c =
    let at_i = value_at c.args.all.now c.loop-i.i c.index-all-i.result (omega arith) c.index-all-i.is in
    c.in_ok-keep_one.ensures ∙ keep_more (place_in c.args.index.now) c.args.first c.loop-i.i (values c.args.all.now) (values c.loop-i.kept.items) (values c.args.kept.now.items) (arc_value c.index-all-i.result) (omega (arith, length-values c.args.all.now)) at_i c.loop-i.invariant
