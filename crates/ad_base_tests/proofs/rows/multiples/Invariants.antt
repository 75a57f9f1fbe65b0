use Rattle.std.proofs.Common.{◌≡◌, length}
use Rattle.ad_base_tests.proofs.rows.multiples.Given as goal

abbrev pub invariant-loop-i : goal.invariant-loop-i
invariant-loop-i l = length l.row ≡ l.size
