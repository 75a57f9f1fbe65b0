use Rattle.ad_codes.proofs.Putting.{adds_after}
use Rattle.ad_codes.proofs.axioms.put_union_and_parts.Goals as goal

pub returns : goal.returns
returns g c = adds_after c.put_name.ensures c.put_classes.ensures
