-- The members so far are written, and those from here on are left.
use Rattle.std.proofs.Common.{◌≡◌, ℕ, List, ◌++◌, ◌-◌, ◌≤◌, length}
use Rattle.ad_atoms_text.specs.Numbered.{members_from, numbers}
use Rattle.ad_atoms_text.proofs.line.put_members.Given as goal

abbrev pub invariant-loop-member : goal.invariant-loop-member
invariant-loop-member g l =
    (l.from ≤ length l.row)
    × (done : List ℕ)
    × (g.P.Pen.writes l.initial.pen l.pen done)
    × (numbers (members_from l.first l.row) ≡ done ++ numbers (members_from l.from l.row))

abbrev pub decreases-loop-member : goal.decreases-loop-member
decreases-loop-member g l = length l.row - l.from
