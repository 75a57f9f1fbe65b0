-- The parts of the line.
use Rattle.std.proofs.Common.{codes, decimal}
use Rattle.ad_lines.proofs.Joining.{four}
use Rattle.ad_reply.proofs.StatLemmas.{three_counts}
use Rattle.ad_reply.proofs.stat.put_atom_counts.Goals as goal

pub returns : goal.returns
returns g c =
    let s = c.args.stat in
    four g.P.Pen.writes g.met.P.Pen.joins c.put_count.ensures c.put_count-2.ensures c.put_count-3.ensures c.put.ensures
    (three_counts (codes "atoms bottom ") (codes " top ") (codes " star ") (decimal s.bottom) (decimal s.top) (decimal s.star))
