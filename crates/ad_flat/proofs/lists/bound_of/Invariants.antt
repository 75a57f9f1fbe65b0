-- The bound is above the symbols so far.
use Rattle.std.proofs.Common.{◌<◌, ◌≤◌, ℕ, IsTrue, take}
use Rattle.ad_theory.specs.Numbers.{among}
use Rattle.ad_flat.proofs.lists.bound_of.Given as goal

abbrev pub invariant-loop-symbol : goal.invariant-loop-symbol
invariant-loop-symbol l = record {
  above : (s : ℕ) → IsTrue (among (take l.symbol-index l.symbols) s) → s < l.bound;
  least : (bound : ℕ) → ((s : ℕ) → IsTrue (among l.symbols s) → s < bound) → l.bound ≤ bound;
}
