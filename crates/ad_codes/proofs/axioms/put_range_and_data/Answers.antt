use Rattle.ad_codes.proofs.Putting.{adds_after}
use Rattle.ad_codes.proofs.axioms.put_range_and_data.Goals as goal

pub returns : goal.returns
returns g c = adds_after c.put_range.ensures c.put_name.ensures
