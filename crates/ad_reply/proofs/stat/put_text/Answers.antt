-- The three lines.
use Rattle.std.proofs.Common.{refl}
use Rattle.ad_lines.proofs.Joining.{three}
use Rattle.ad_reply.proofs.stat.put_text.Goals as goal

pub returns : goal.returns
returns g c = three g.P.Pen.writes g.met.P.Pen.joins c.put_axiom_counts.ensures c.put_tautologies.ensures c.put_atom_counts.ensures refl
