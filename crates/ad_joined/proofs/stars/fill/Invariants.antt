-- The symbols so far are members, and no others.
use Rattle.std.proofs.Common.{◌≡◌, ℕ, length, take}
use Rattle.ad_bits.specs.Rows.{has}
use Rattle.ad_theory.specs.Numbers.{among}
use Rattle.ad_joined.proofs.stars.fill.Given as goal

abbrev pub invariant-loop-symbol : goal.invariant-loop-symbol
invariant-loop-symbol l = record {
  members : (s : ℕ) → has l.row s ≡ among (take l.symbol-index l.symbols) s;
  size : length l.row ≡ length l.fn.row;
}
