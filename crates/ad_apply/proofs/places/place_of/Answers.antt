-- The map compares as the trees do.
use Rattle.std.proofs.Common.{rules}
use Rattle.ad_apply.specs.Same.{same_axiom}
use Rattle.ad_apply.proofs.places.place_of.Goals as goal

pub returns : goal.returns
unfolding same_axiom
returns c = search rules
