-- The parts of the line.
use Rattle.std.proofs.Common.{◌++◌, [], ◌∷◌, ◌∙◌, ap, codes, decimal}
use Rattle.ad_base.specs.Kinds.{kind_word}
use Rattle.ad_lines.proofs.Joining.{four}
use Rattle.ad_summary.proofs.SummaryLemmas.{two_counts}
use Rattle.ad_summary.proofs.lines.put_kind_line.Goals as goal

pub returns : goal.returns
returns g c =
    let atoms = codes " atoms " ++ decimal c.args.atoms in
    let covers = codes " covers " ++ decimal c.args.covers in
    four g.P.Pen.writes g.met.P.Pen.joins c.put.ensures c.put_count.ensures c.put_count-2.ensures c.put-2.ensures
    (ap (λ word. ((word ++ atoms) ++ covers) ++ (10 ∷ [])) c.word_of.ensures
    ∙ two_counts (kind_word c.args.kind) (codes " atoms ") (codes " covers ") (decimal c.args.atoms) (decimal c.args.covers))
