-- The numbers below the counter are members.
use Rattle.std.proofs.Common.{◌≡◌, ℕ, ◌<◌, length, IsTrue}
use Rattle.ad_bits.specs.Rows.{has}
use Rattle.ad_star.proofs.starred.full_row.Given as goal

abbrev pub invariant-loop-i : goal.invariant-loop-i
invariant-loop-i l = (length l.row ≡ l.fn.size) × ((k : ℕ) → k < l.i → IsTrue (has l.row k))
