-- The type keeps that there are few axioms.
use Rattle.std.proofs.Common.{length, ap, arith}
use Rattle.ad_apply.proofs.WorkingLemmas.{length-values}
use Rattle.ad_edition.proofs.edition.Edition.axioms.Goals as goal

pub returns-clause-few : goal.returns-clause-few
returns-clause-few c =
    let few = c.self.invariant.0.few in
    omega (arith, few, length-values c.axioms.result.now, ap length c.axioms.ensures)
