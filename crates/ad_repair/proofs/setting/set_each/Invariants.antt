-- The first of the numbers are members too.
use Rattle.std.proofs.Common.{◌≡◌, ◌||◌, ℕ, length, take}
use Rattle.ad_bits.specs.Rows.{has}
use Rattle.ad_theory.specs.Numbers.{among}
use Rattle.ad_repair.proofs.setting.set_each.Given as goal

abbrev pub invariant-loop-number : goal.invariant-loop-number
invariant-loop-number l = record {
  members : (i : ℕ) → has l.row i ≡ (has l.fn.row i || among (take l.number-index l.numbers) i);
  size : length l.row ≡ length l.fn.row;
}
