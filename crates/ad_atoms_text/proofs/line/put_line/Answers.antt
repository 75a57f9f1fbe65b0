-- The parts of the line.
use Rattle.std.proofs.Common.{◌∷◌, ◌++◌, ap, codes, decimal}
use Rattle.ad_lines.specs.Lines.{behind}
use Rattle.ad_lines.proofs.Joining.{five}
use Rattle.ad_atoms_text.specs.AtomsText.{needs_words}
use Rattle.ad_atoms_text.specs.Numbered.{members}
use Rattle.ad_atoms_text.proofs.LineLemmas.{four}
use Rattle.ad_atoms_text.proofs.line.put_line.Goals as goal

pub returns : goal.returns
returns g c =
    five g.P.Pen.writes g.met.P.Pen.joins c.put.ensures c.put_number.ensures c.put-2.ensures c.put_number-2.ensures c.put_needs.ensures
    (ap (λ t. codes "atom" ++ t) (four (32 ∷ decimal c.args.atom) (codes " axioms") (32 ∷ decimal c.args.size) (behind (needs_words (members c.args.covers.now)))))
