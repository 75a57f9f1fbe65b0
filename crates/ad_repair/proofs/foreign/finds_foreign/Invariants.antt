-- Each of the first slots is local.
use Rattle.std.proofs.Common.{◌≡◌, ◌≤◌, ℕ, take, IsTrue}
use Rattle.ad_bits.specs.Rows.{has}
use Rattle.ad_theory.specs.Numbers.{among}
use Rattle.ad_repair.proofs.foreign.finds_foreign.Given as goal

abbrev pub invariant-loop-slot : goal.invariant-loop-slot
invariant-loop-slot g l = record {
  local : (k : ℕ) → IsTrue (among (take l.slot-index l.slots) k) → IsTrue (g.U.Universe.is_local l.universe l.fn.side (has l.seen) k);
  counted : l.fn.tally.tests ≤ l.tally.tests;
  runs : l.tally.runs ≡ l.fn.tally.runs;
}
