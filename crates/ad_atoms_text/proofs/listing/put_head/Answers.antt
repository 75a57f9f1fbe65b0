-- The parts of the line.
use Rattle.std.proofs.Common.{◌∷◌, ◌++◌, [], ap, codes, decimal}
use Rattle.ad_lines.proofs.Joining.{five}
use Rattle.ad_atoms_text.proofs.LineLemmas.{four}
use Rattle.ad_atoms_text.proofs.listing.put_head.Goals as goal

pub returns : goal.returns
returns g c =
    five g.P.Pen.writes g.met.P.Pen.joins c.put.ensures c.put_number.ensures c.put-2.ensures c.put_number-2.ensures c.put-3.ensures
    (ap (λ t. codes "atoms" ++ t) (four (32 ∷ decimal c.args.count) (codes " tautologies") (32 ∷ decimal c.args.tautologies) (10 ∷ [])))
