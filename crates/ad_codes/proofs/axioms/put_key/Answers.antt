use Rattle.ad_codes.proofs.Putting.{adds_after}
use Rattle.ad_codes.proofs.axioms.put_key.Goals as goal

pub returns : goal.returns
returns g c = adds_after (adds_after c.put_class.ensures c.put_properties.ensures) c.put_data.ensures
