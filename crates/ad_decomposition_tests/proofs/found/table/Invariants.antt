use Rattle.std.proofs.Common.{◌≡◌, ℕ, ◌<◌, [], Some, None, length, replicate, slice_index_or}
use Rattle.ad_decomposition_tests.proofs.found.table.Given as goal

abbrev pub invariant-loop-slot : goal.invariant-loop-slot
invariant-loop-slot l = record {
  bottom : l.rows.bottom ≡ replicate (length l.modules) None;
  top : l.rows.top ≡ replicate (length l.modules) None;
  size : length l.rows.star ≡ length l.modules;
  star : (k : ℕ) → k < l.slot → slice_index_or l.rows.star k None ≡ Some (slice_index_or l.modules k []);
}
