use Rattle.std.proofs.Common.{◌≡◌, ℕ, ◌<◌, length, IsTrue}
use Rattle.ad_bits.specs.Rows.{has}
use Rattle.ad_depend.proofs.below.full.Given as goal

abbrev pub invariant-loop-b : goal.invariant-loop-b
invariant-loop-b l = record {
  size : length l.row ≡ l.size;
  members : (k : ℕ) → k < l.b → IsTrue (has l.row k);
}
