use Rattle.std.proofs.Common.{◌≡◌, ◌↔◌, ℕ, ◌<◌, length, slice_index, IsTrue}
use Rattle.ad_bits.specs.Rows.{has}
use Rattle.ad_depend.proofs.below.starts.Given as goal

abbrev pub invariant-loop-atom : goal.invariant-loop-atom
invariant-loop-atom l = record {
  size : length l.row ≡ l.fn.slots;
  starts : (s : ℕ) → IsTrue (has l.row s) ↔ ((k : ℕ) × (k < l.atom) × (slice_index l.atoms.firsts k ≡ s));
}
