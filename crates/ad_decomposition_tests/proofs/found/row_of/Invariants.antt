use Rattle.std.proofs.Common.{◌≡◌, ℕ, ◌<◌, ◌≤◌, false, length}
use Rattle.ad_bits.specs.Rows.{has}
use Rattle.ad_decomposition_tests.proofs.found.row_of.Given as goal

abbrev pub invariant-loop-i : goal.invariant-loop-i
invariant-loop-i l = record {
  size : length l.row ≡ length l.members;
  below : (k : ℕ) → k < l.i → has l.row k ≡ has l.members k;
  above : (k : ℕ) → l.i ≤ k → has l.row k ≡ false;
}
