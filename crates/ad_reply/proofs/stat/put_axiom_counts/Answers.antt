-- The parts of the line.
use Rattle.std.proofs.Common.{codes, decimal}
use Rattle.ad_lines.proofs.Joining.{five}
use Rattle.ad_reply.proofs.StatLemmas.{four_counts}
use Rattle.ad_reply.proofs.stat.put_axiom_counts.Goals as goal

pub returns : goal.returns
returns g c =
    let s = c.args.stat in
    five g.P.Pen.writes g.met.P.Pen.joins c.put_count.ensures c.put_count-2.ensures c.put_count-3.ensures c.put_count-4.ensures c.put.ensures
    (four_counts (codes "axioms ") (codes " carried ") (codes " entities ") (codes " bytes ") (decimal s.axioms) (decimal s.carried) (decimal s.entities) (decimal s.bytes))
