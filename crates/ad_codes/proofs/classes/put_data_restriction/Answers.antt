use Rattle.ad_codes.proofs.Putting.{adds_after}
use Rattle.ad_codes.proofs.classes.put_data_restriction.Goals as goal

pub returns : goal.returns
returns g c = adds_after (adds_after c.put_name.ensures c.put_range.ensures) c.put.ensures
