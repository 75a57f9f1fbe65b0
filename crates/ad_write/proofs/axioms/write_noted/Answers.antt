-- By the definition.
use Rattle.ad_write.specs.Canonical.{canon}
use Rattle.ad_write.proofs.axioms.write_noted.Goals as goal

pub returns : goal.returns
unfolding canon
returns g c = rw c.as_slice.ensures at c.write_axiom.ensures
