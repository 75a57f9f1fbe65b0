-- The two pieces are the keyword and the parenthesis.
use Rattle.std.proofs.Common.{◌∷◌, [], ◌++◌, ap}
use Rattle.ad_lines.proofs.Joining.{two}
use Rattle.ad_write.proofs.spelled.open.Goals as goal

pub returns : goal.returns
returns g c = two g.P.Pen.writes g.met.P.Pen.joins c.put.ensures c.put-2.ensures (ap (λ t. t ++ 40 ∷ []) c.as_bytes.ensures.value)
