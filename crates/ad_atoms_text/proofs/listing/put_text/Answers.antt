-- The first line, and those of the atoms.
use Rattle.std.proofs.Common.{◌++◌, length, slice_index, ap, ◌∙◌}
use Rattle.ad_lines.proofs.Joining.{two}
use Rattle.ad_atoms_text.specs.AtomsText.{head_line}
use Rattle.ad_atoms_text.specs.Numbered.{lines_of}
use Rattle.ad_atoms_text.proofs.listing.put_text.Goals as goal

pub returns : goal.returns
returns g c =
    let atoms = c.args.atoms.now in
    let head = ap (λ n. head_line n c.tautologies.result) c.count.ensures ∙ ap (head_line (length atoms.firsts)) c.tautologies.ensures in
    two g.P.Pen.writes g.met.P.Pen.joins c.put_head.ensures c.put_lines.ensures (ap (λ t. t ++ lines_of (slice_index atoms.sizes) 0 c.args.covers.now.rows) head)
