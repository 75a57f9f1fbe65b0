-- The symbols so far are members too.
use Rattle.std.proofs.Common.{◌≡◌, length, take}
use Rattle.ad_bits.specs.Rows.{has}
use Rattle.ad_theory.specs.Numbers.{among}
use Rattle.ad_theory.specs.Sweep.{HasAlso}
use Rattle.ad_split.proofs.closure.mark.Given as goal

abbrev pub invariant-loop-symbol : goal.invariant-loop-symbol
invariant-loop-symbol l = record {
  also : HasAlso (has l.fn.closure) (among (take l.symbol-index l.symbols)) (has l.closure);
  size : length l.closure ≡ length l.fn.closure;
}
