-- The slots below have lost their lowest place, and those above are as they were.
use Rattle.std.proofs.Common.{◌≡◌, ℕ, ◌+◌, ◌*◌, ◌<◌, ◌≤◌, length, slice_index, IsFalse}
use Rattle.ad_bits.specs.Rows.{has}
use Rattle.ad_sizes.specs.Places.{lowest}
use Rattle.ad_sizes.proofs.places.take_lowest.Given as goal

abbrev pub invariant-loop-slot : goal.invariant-loop-slot
invariant-loop-slot l = record {
  row : length l.lacking ≡ length l.numbers.items;
  long : length l.numbers.items ≡ length l.initial.numbers.items;
  taken : (k : ℕ) → k < l.slot → slice_index l.initial.numbers.items k ≡ lowest l.lacking k + 2 * slice_index l.numbers.items k;
  left : (k : ℕ) → l.slot ≤ k → slice_index l.numbers.items k ≡ slice_index l.initial.numbers.items k;
  empty : (k : ℕ) → l.slot ≤ k → IsFalse (has l.lacking k);
}
