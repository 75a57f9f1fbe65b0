use Rattle.ad_codes.proofs.Putting.{adds_after}
use Rattle.ad_codes.proofs.axioms.put_two_data.Goals as goal

pub returns : goal.returns
returns g c = adds_after c.put_name.ensures c.put_name-2.ensures
