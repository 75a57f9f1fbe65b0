-- The places that were taken, with what is left above them, make up the sizes.
use Rattle.std.proofs.Common.{◌≡◌, ℕ, ◌<◌, ◌≤◌, length, slice_index}
use Rattle.ad_sizes.specs.Places.{number_over, AreOver}
use Rattle.ad_sizes.specs.Sizes.{sizes_of}
use Rattle.ad_sizes.proofs.sizes.Sizes.of.Given as goal

abbrev pub invariant-places : goal.invariant-places
invariant-places l = record {
  long : length l.left.items ≡ length (sizes_of l.rows l.fn.kind);
  numbers : (k : ℕ) → k < length l.left.items → number_over (slice_index l.left.items k) l.lacking.items k ≡ slice_index (sizes_of l.rows l.fn.kind) k;
  below : (k : ℕ) → k < length l.left.items → slice_index l.left.items k ≤ l.largest;
  over : AreOver (length l.left.items) l.lacking.items;
}

abbrev pub decreases-places : goal.decreases-places
decreases-places l = l.largest
