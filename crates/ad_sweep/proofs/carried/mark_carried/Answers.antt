use Rattle.std.proofs.Common.{◌≡◌, ◌<◌, ◌+◌, true, length, map, vec_len, set, sym, subst, ap, ◌∙◌, arith}
use Rattle.std.proofs.lemmas.List.{length-map}
use Rattle.ad_names.specs.Names.{is_member}
use Rattle.ad_syntax_laws.specs.ModuleDocument.{goes_with}
use Rattle.ad_sweep.proofs.CarriedMarkLemmas.{IsMarkedBelow, IsLeftFrom, marked_more, marked_same, left_more, left_same}
use Rattle.ad_sweep.proofs.SeenLemmas.{noted_at}
use Rattle.ad_sweep.proofs.carried.mark_carried.Goals.{then-goes_with, else-goes_with}
use Rattle.ad_sweep.proofs.carried.mark_carried.Goals as goal

pub loop-k-preserved : goal.loop-k-preserved
loop-k-preserved g c =
    let O = map g.A.Lent.lent c.args.owners.now in
    let k = c.loop-k.k in
    let before = c.args.marks.now.items in
    let now = c.loop-k.marks.items in
    let entities = is_member c.args.names.now in
    let a = g.A.Lent.lent c.index-owners-k.result in
    let in_axioms : k < length O = omega (arith, length-map c.args.owners.now g.A.Lent.lent, c.loop-k-test.true) in
    let goes : c.goes_with.result ≡ goes_with entities a.axiom = c.goes_with.ensures ∙ ap (λ x. goes_with entities x.axiom) c.noted.ensures in
    let at = noted_at g.A.Lent.lent c.args.owners.now k c.index-owners-k.result c.index-owners-k.is in
    elim c.if-goes_with.branch [
      | then-goes_with w ↦ (
          let is : c.if-goes_with.marks.items ≡ set now k true = ap (λ v. v.items) w.marks-is in
          record {
            long = ap vec_len w.marks-is ∙ c.loop-k.invariant.long;
            below = subst (λ l. IsMarkedBelow (k + 1) entities O before l) (sym is)
                (marked_more k entities O before now a in_axioms at c.loop-k.invariant.below c.loop-k.invariant.from (omega (arith, c.loop-k.invariant.long, c.loop-k-test.true)) (sym goes ∙ w.if-goes_with.true));
            from = subst (λ l. IsLeftFrom (k + 1) before l) (sym is) (left_more k before now true c.loop-k.invariant.from);
          })
      | else-goes_with w ↦ (
          let is : c.if-goes_with.marks.items ≡ now = ap (λ v. v.items) w.marks-is in
          record {
            long = ap vec_len w.marks-is ∙ c.loop-k.invariant.long;
            below = subst (λ l. IsMarkedBelow (k + 1) entities O before l) (sym is)
                (marked_same k entities O before now a in_axioms at c.loop-k.invariant.below c.loop-k.invariant.from (sym goes ∙ w.if-goes_with.false));
            from = subst (λ l. IsLeftFrom (k + 1) before l) (sym is) (left_same k before now c.loop-k.invariant.from);
          })
    ]
