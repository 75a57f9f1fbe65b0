use Rattle.ad_codes.proofs.Putting.{adds_after}
use Rattle.ad_codes.proofs.axioms.put_class_and_property.Goals as goal

pub returns : goal.returns
returns g c = adds_after c.put_class.ensures c.put_property.ensures
