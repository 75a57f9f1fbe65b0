-- One more atom.
use Rattle.std.proofs.Common.{◌∷◌, ◌++◌, [], cond, sym, ap, ◌∙◌}
use Rattle.ad_bits.specs.Rows.{has}
use Rattle.ad_split.proofs.TopLemmas.{numbers_more}
use Rattle.ad_split.proofs.tops.tops_of.Goals as goal

pub loop-atom-preserved : goal.loop-atom-preserved
loop-atom-preserved c =
    let row = c.args.covers.now.tops in
    let n = c.loop-atom.atom in
    c.in_ok-push_top.ensures ∙ ap (λ l. l ++ cond (has row n) (n ∷ []) []) c.loop-atom.invariant ∙ sym (numbers_more row n)
