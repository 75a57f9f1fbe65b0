use Rattle.ad_shapes.proofs.Alike.{same_shapes}
use Rattle.ad_shapes.proofs.laws.shapes_are_same.Goals as goal

pub returns : goal.returns
returns g c G H pairs agree = same_shapes G H pairs agree
