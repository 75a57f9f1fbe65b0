use Rattle.std.proofs.Common.{◌≤◌, ◌-◌, length}
use Rattle.ad_bits.specs.Rows.{has}
use Rattle.ad_atoms.proofs.Gathers.{IsGathered}
use Rattle.ad_atoms.proofs.numbering.gather.Given as goal

abbrev pub invariant-loop-slot : goal.invariant-loop-slot
invariant-loop-slot l = record {
  within : l.from ≤ length l.members;
  gathered : IsGathered (has l.members) l.initial.atom_of.items l.atom l.from l.size l.atom_of.items;
}

abbrev pub decreases-loop-slot : goal.decreases-loop-slot
decreases-loop-slot l = length l.members - l.from
