use Rattle.ad_codes.proofs.Putting.{adds_after}
use Rattle.ad_codes.proofs.axioms.put_two_properties.Goals as goal

pub returns : goal.returns
returns g c = adds_after c.put_property.ensures c.put_property-2.ensures
