-- The row has all slots so far.
use Rattle.std.proofs.Common.{◌≡◌, ◌<◌, ℕ, IsTrue, length}
use Rattle.ad_bits.specs.Rows.{has}
use Rattle.ad_flat.proofs.rows.full_row.Given as goal

abbrev pub invariant-loop-i : goal.invariant-loop-i
invariant-loop-i l = record {
  size : length l.row ≡ l.size;
  full : (j : ℕ) → j < l.i → IsTrue (has l.row j);
}
