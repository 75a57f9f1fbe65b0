-- The first symbols of the list were reached.
use Rattle.std.proofs.Common.{◌≡◌, ℕ, length, take, vec_capacity}
use Rattle.ad_bits.specs.Rows.{has}
use Rattle.ad_theory.specs.Numbers.{among}
use Rattle.ad_theory.specs.Sweep.{HasAlso}
use Rattle.ad_extract.specs.Waiting.{IsWaiting, settled}
use Rattle.ad_extract.proofs.waiting.reach_all.Given as goal

abbrev pub invariant-loop-symbol : goal.invariant-loop-symbol
invariant-loop-symbol l = record {
  waiting : IsWaiting l.pending.items l.reached;
  also : HasAlso (has l.fn.reached) (among (take l.symbol-index l.symbols)) (has l.reached);
  settled : (s : ℕ) → settled l.pending.items l.reached s ≡ settled l.fn.pending.items l.fn.reached s;
  room : vec_capacity l.pending ≡ vec_capacity l.fn.pending;
  size : length l.reached ≡ length l.fn.reached;
}
