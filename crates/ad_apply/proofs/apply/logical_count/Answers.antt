-- One more axiom counts where it is logical.
use Rattle.std.proofs.Common.{◌≡◌, ◌+◌, cond, length, take, arith, subst, ap, ◌∙◌}
use Rattle.std.specs.Arc.{arc_value}
use Rattle.ad_tree.specs.Logical.{is_logical}
use Rattle.ad_tree.specs.declared.axioms.Noted.{Noted}
use Rattle.ad_syntax_laws.specs.OntologyModule.{logical, values}
use Rattle.ad_apply.proofs.WorkingLemmas.{value_at, length-values}
use Rattle.ad_apply.proofs.StepLemmas.{logical_more}
use Rattle.ad_apply.proofs.apply.logical_count.Goals as goal
use Rattle.ad_apply.proofs.apply.logical_count.Goals.{then-is_logical, else-is_logical}

pub loop-noted-preserved : goal.loop-noted-preserved
loop-noted-preserved c =
    let all = values c.args.axioms.now in
    let i = c.loop-noted.noted-index in
    let is : c.is_logical.result ≡ is_logical (arc_value c.noted-item.result).axiom = c.is_logical.ensures ∙ ap (λ (a : Noted). is_logical a.axiom) c.deref.ensures in
    let more = logical_more all i (arc_value c.noted-item.result) c.is_logical.result (omega (arith, length-values c.args.axioms.now)) (value_at c.args.axioms.now i c.noted-item.result (omega arith) c.noted-item.is) is in
    elim c.if-is_logical.branch [
      | then-is_logical w ↦
          let one : length (logical (take (i + 1) all)) ≡ length (logical (take i all)) + 1 = subst (λ b. length (logical (take (i + 1) all)) ≡ length (logical (take i all)) + cond b 1 0) w.if-is_logical.true more in
          (omega (arith, one, w.count-is), omega (arith, w.count-is))
      | else-is_logical w ↦
          let same_count : length (logical (take (i + 1) all)) ≡ length (logical (take i all)) + 0 = subst (λ b. length (logical (take (i + 1) all)) ≡ length (logical (take i all)) + cond b 1 0) w.if-is_logical.false more in
          (omega (arith, same_count, w.count-is), omega (arith, w.count-is))
    ]
