-- The line tells the counts of the kind.
use Rattle.std.proofs.Common.{◌∙◌, ap, length, subst}
use Rattle.ad_reply.specs.Atoms.{shape_in}
use Rattle.ad_summary.specs.Lines.{kind_line}
use Rattle.ad_summary.proofs.summary.put_kind.Goals as goal

pub returns : goal.returns
returns g c =
    let kind = c.args.kind in
    subst (g.P.Pen.writes c.args.pen.now c.put_kind_line.new.pen)
    (ap (λ atoms. kind_line kind atoms c.cover_count.result) c.atom_count.ensures ∙ ap (kind_line kind (length (shape_in kind c.args.edition.now).sizes)) c.cover_count.ensures)
    c.put_kind_line.ensures
