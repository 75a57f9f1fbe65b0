-- The parts of the line.
use Rattle.std.proofs.Common.{codes, decimal}
use Rattle.ad_lines.proofs.Joining.{four}
use Rattle.ad_reply.proofs.StatLemmas.{three_counts}
use Rattle.ad_summary.proofs.lines.put_axioms_line.Goals as goal

pub returns : goal.returns
returns g c =
    four g.P.Pen.writes g.met.P.Pen.joins c.put_count.ensures c.put_count-2.ensures c.put_count-3.ensures c.put.ensures
    (three_counts (codes "axioms ") (codes " carried ") (codes " entities ") (decimal c.args.axioms) (decimal c.args.carried) (decimal c.args.entities))
