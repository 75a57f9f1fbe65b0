use Rattle.ad_codes.proofs.Putting.{adds_after}
use Rattle.ad_codes.proofs.axioms.put_property_and_chain.Goals as goal

pub returns : goal.returns
returns g c = adds_after c.put_property.ensures c.put_properties.ensures
