-- The members of the first rows are members.
use Rattle.std.proofs.Common.{◌≡◌, ℕ, ◌<◌, [], length, slice_index_or, IsTrue}
use Rattle.ad_bits.specs.Rows.{has}
use Rattle.ad_repair.proofs.touched.joined.Given as goal

abbrev pub invariant-loop-row : goal.invariant-loop-row
invariant-loop-row l = record {
  size : length l.all ≡ l.slots;
  members : (t i : ℕ) → t < l.row-index → IsTrue (has (slice_index_or l.rows t []) i) → IsTrue (has l.all i);
}
