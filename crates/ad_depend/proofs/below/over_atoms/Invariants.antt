use Rattle.std.proofs.Common.{◌≡◌, ℕ, ◌<◌, ◌≤◌, length, slice_index, IsFalse}
use Rattle.ad_bits.specs.Rows.{has}
use Rattle.ad_depend.proofs.below.over_atoms.Given as goal

abbrev pub invariant-loop-atom : goal.invariant-loop-atom
invariant-loop-atom l = record {
  size : length l.row ≡ length l.atoms.firsts;
  atoms : (j : ℕ) → j < l.atom → has l.row j ≡ has l.slots (slice_index l.atoms.firsts j);
  empty : (j : ℕ) → l.atom ≤ j → IsFalse (has l.row j);
}
