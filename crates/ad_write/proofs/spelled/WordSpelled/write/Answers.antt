-- The three pieces are the IRI in full.
use Rattle.std.proofs.Common.{[], ◌∷◌, ◌++◌, ap}
use Rattle.ad_lines.proofs.Joining.{three}
use Rattle.ad_write.proofs.spelled.WordSpelled.write.Goals as goal

pub returns : goal.returns
returns g c = three g.P.Pen.writes g.met.P.Pen.joins c.put.ensures c.put-2.ensures c.put-3.ensures (ap (λ t. 60 ∷ (t ++ 62 ∷ [])) c.as_bytes.ensures)
