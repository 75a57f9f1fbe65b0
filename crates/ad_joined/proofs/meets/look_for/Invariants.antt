-- The first of the axioms were looked at, and those that were needed are taken.
use Rattle.std.proofs.Common.{◌≡◌, ℕ, ◌≤◌, Bool, length, vec_capacity, IsTrue}
use Rattle.ad_bits.specs.Rows.{has}
use Rattle.ad_theory.specs.Numbers.{logic_of}
use Rattle.ad_theory.specs.Sweep.{IsGathered}
use Rattle.ad_extract.specs.Waiting.{IsWaiting, settled}
use Rattle.ad_joined.proofs.meets.look_for.Given as goal

abbrev pub invariant-loop-slot : goal.invariant-loop-slot
invariant-loop-slot g l =
    let L = logic_of (g.U.Universe.symbols_of l.universe) (g.U.Universe.is_local l.universe l.fn.side) in
    let O : ℕ → Type 0 = λ i. IsTrue (has l.row i) in
    record {
      waiting : IsWaiting l.pending.items l.reached;
      gathered : (seed : ℕ → Bool) → IsGathered L seed O (λ i. IsTrue (has l.fn.out i)) (has l.fn.reached)
          → IsGathered L seed O (λ i. IsTrue (has l.out i)) (has l.reached);
      settled : (s : ℕ) → settled l.pending.items l.reached s ≡ settled l.fn.pending.items l.fn.reached s;
      counted : l.fn.tally.tests ≤ l.tally.tests;
      runs : l.tally.runs ≡ l.fn.tally.runs;
      room : vec_capacity l.pending ≡ vec_capacity l.fn.pending;
      out : length l.out ≡ length l.fn.out;
      size : length l.reached ≡ length l.fn.reached;
    }
