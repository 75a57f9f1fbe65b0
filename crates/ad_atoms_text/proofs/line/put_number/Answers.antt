-- The space, and the digits.
use Rattle.std.proofs.Common.{◌∷◌, ◌∙◌, ap, decimal}
use Rattle.ad_lines.proofs.Joining.{two}
use Rattle.ad_atoms_text.proofs.line.put_number.Goals as goal

pub returns : goal.returns
returns g c = two g.P.Pen.writes g.met.P.Pen.joins c.put.ensures c.put-2.ensures (ap (λ t. 32 ∷ t) (c.as_bytes.ensures ∙ c.of.ensures ∙ ap decimal c.from.ensures))
