-- The two pieces are the label behind its mark.
use Rattle.std.proofs.Common.{◌∷◌, ap}
use Rattle.ad_lines.proofs.Joining.{two}
use Rattle.ad_write.proofs.names.write_anonymous.Goals as goal

pub returns : goal.returns
returns g c = two g.P.Pen.writes g.met.P.Pen.joins c.put.ensures c.put-2.ensures (ap (λ t. 95 ∷ 58 ∷ t) c.as_bytes.ensures)
