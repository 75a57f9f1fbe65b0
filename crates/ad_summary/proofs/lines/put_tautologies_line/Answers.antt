-- The parts of the line.
use Rattle.std.proofs.Common.{refl}
use Rattle.ad_lines.proofs.Joining.{two}
use Rattle.ad_summary.proofs.lines.put_tautologies_line.Goals as goal

pub returns : goal.returns
returns g c = two g.P.Pen.writes g.met.P.Pen.joins c.put_count.ensures c.put.ensures refl
