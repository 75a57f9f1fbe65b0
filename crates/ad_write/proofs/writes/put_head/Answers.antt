-- The keyword, the parenthesis and the line's end.
use Rattle.std.proofs.Common.{refl}
use Rattle.ad_lines.proofs.Joining.{two}
use Rattle.ad_write.proofs.writes.put_head.Goals as goal

pub returns : goal.returns
returns g c = two g.P.Pen.writes g.met.P.Pen.joins c.open.ensures c.put.ensures refl
