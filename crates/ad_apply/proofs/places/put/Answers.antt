-- The map's own clause, at a reference to each axiom.
use Rattle.ad_apply.specs.Same.{same_axiom}
use Rattle.ad_apply.proofs.places.put.Goals as goal

pub returns : goal.returns
unfolding same_axiom
returns c = λ a. c.in_ok-insert.ensures.updates.0 (record { ref_ptr = c.args.noted.ref_ptr; now = a })
