-- The five lines.
use Rattle.std.proofs.Common.{◌++◌, ap}
use Rattle.ad_base.specs.declared.limits.Kind.TheVariants as kinds
use Rattle.ad_lines.proofs.Joining.{five}
use Rattle.ad_reply.specs.Atoms.{shape_in}
use Rattle.ad_summary.specs.Lines.{tautologies_line}
use Rattle.ad_summary.specs.Summary.{line_of_axioms, line_of_kind}
use Rattle.ad_summary.proofs.summary.put_lines.Goals as goal

pub returns : goal.returns
returns g c =
    let edition = c.args.edition.now in
    five g.P.Pen.writes g.met.P.Pen.joins c.put_axioms.ensures c.put_tautologies_line.ensures c.put_kind.ensures c.put_kind-2.ensures c.put_kind-3.ensures
    (ap (λ n. (((line_of_axioms edition.shown.axioms ++ tautologies_line n) ++ line_of_kind kinds.Bottom (shape_in kinds.Bottom edition)) ++ line_of_kind kinds.Top (shape_in kinds.Top edition)) ++ line_of_kind kinds.Star (shape_in kinds.Star edition)) c.tautology_count.ensures)
