-- The next line is written, and those of the atoms behind it are left.
use Rattle.std.proofs.Common.{◌+◌, [], ◌++◌, drop, slice_index, slice_index_or, sym, ◌∙◌, ap, subst, arith, append_assoc}
use Rattle.ad_atoms_text.specs.AtomsText.{atom_line}
use Rattle.ad_atoms_text.specs.Numbered.{lines_of, members}
use Rattle.ad_atoms_text.proofs.LineLemmas.{all_done, next_line}
use Rattle.ad_atoms_text.proofs.listing.put_lines.Goals as goal

pub loop-atom-preserved : goal.loop-atom-preserved
loop-atom-preserved g c =
    let rows = c.args.covers.now.rows in
    let size = slice_index c.args.atoms.now.sizes in
    let atom = c.loop-atom.atom in
    let done = c.loop-atom.invariant.0 in
    let line = atom_line atom (size atom) (members (slice_index_or rows atom [])) in (
      done ++ line,
      g.met.P.Pen.joins _ _ _ done line c.loop-atom.invariant.1 (rw (← c.size_of.ensures, ← c.row.ensures) c.put_line.ensures),
      c.loop-atom.invariant.2
          ∙ ap (λ t. done ++ t) (next_line size atom rows (omega (arith, c.requires, c.loop-atom-test.true, c.count-atom-end.ensures)))
          ∙ sym (append_assoc done line (lines_of size (atom + 1) (drop (atom + 1) rows))),
    )

pub returns : goal.returns
returns g c =
    let rows = c.args.covers.now.rows in
    let size = slice_index c.args.atoms.now.sizes in
    let all = all_done size c.loop-atom.atom rows c.loop-atom.invariant.0 (omega (arith, c.requires, c.loop-atom-test.false, c.count-atom-end.ensures)) c.loop-atom.invariant.2 in
    subst (g.P.Pen.writes c.args.pen.now c.loop-atom.pen) all c.loop-atom.invariant.1
