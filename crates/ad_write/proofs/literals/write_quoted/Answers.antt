-- The escaped text between two quotation marks.
use Rattle.std.proofs.Common.{refl}
use Rattle.ad_lines.proofs.Joining.{three}
use Rattle.ad_write.proofs.literals.write_quoted.Goals as goal

pub returns : goal.returns
returns g c = three g.P.Pen.writes g.met.P.Pen.joins c.put.ensures c.write_escaped.ensures c.put-2.ensures refl
