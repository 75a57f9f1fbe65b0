-- The words, and the digits.
use Rattle.std.proofs.Common.{◌++◌, ◌∙◌, ap}
use Rattle.ad_lines.proofs.Joining.{two}
use Rattle.ad_summary.proofs.lines.put_count.Goals as goal

pub returns : goal.returns
returns g c = two g.P.Pen.writes g.met.P.Pen.joins c.put.ensures c.put-2.ensures (ap (λ t. c.args.words.now ++ t) (c.as_bytes.ensures ∙ c.of.ensures))
