-- The lines so far are written, and those of the other atoms are left.
use Rattle.std.proofs.Common.{◌≡◌, List, ℕ, ◌++◌, drop, slice_index}
use Rattle.ad_atoms_text.specs.Numbered.{lines_of}
use Rattle.ad_atoms_text.proofs.listing.put_lines.Given as goal

abbrev pub invariant-loop-atom : goal.invariant-loop-atom
invariant-loop-atom g l =
    (done : List ℕ)
    × (g.P.Pen.writes l.initial.pen l.pen done)
    × (lines_of (slice_index l.atoms.sizes) 0 l.covers.rows ≡ done ++ lines_of (slice_index l.atoms.sizes) l.atom (drop l.atom l.covers.rows))
