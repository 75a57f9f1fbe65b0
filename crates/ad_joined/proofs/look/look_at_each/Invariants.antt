-- The first of the axioms were looked at: each of them is taken, or local for what is settled.
use Rattle.std.proofs.Common.{◌≡◌, ℕ, ◌≤◌, ◌⊎◌, Bool, length, take, vec_capacity, IsTrue}
use Rattle.ad_bits.specs.Rows.{has}
use Rattle.ad_theory.specs.Numbers.{among, logic_of}
use Rattle.ad_theory.specs.Sweep.{IsGathered}
use Rattle.ad_extract.specs.Waiting.{IsWaiting, settled}
use Rattle.ad_joined.specs.Wholes.{HasMoved}
use Rattle.ad_joined.proofs.look.look_at_each.Given as goal

abbrev pub invariant-loop-slot : goal.invariant-loop-slot
invariant-loop-slot g l =
    let L = logic_of (g.U.Universe.symbols_of l.universe) (g.U.Universe.is_local l.universe l.fn.side) in
    let O : ℕ → Type 0 = λ i. IsTrue (g.U.Universe.is_live l.universe i) in
    record {
      waiting : IsWaiting l.pending.items l.reached;
      gathered : (seed : ℕ → Bool) → IsGathered L seed O (λ i. IsTrue (has l.fn.out i)) (has l.fn.reached)
          → IsGathered L seed O (λ i. IsTrue (has l.out i)) (has l.reached);
      kept : (i : ℕ) → IsTrue (has l.fn.out i) → IsTrue (has l.out i);
      looked : (i : ℕ) → IsTrue (among (take l.slot-index l.slots) i) →
          IsTrue (has l.out i) ⊎ IsTrue (g.U.Universe.is_local l.universe l.fn.side (settled l.fn.pending.items l.fn.reached) i);
      settled : (s : ℕ) → settled l.pending.items l.reached s ≡ settled l.fn.pending.items l.fn.reached s;
      moved : HasMoved l.fn.out l.fn.pending.items l.out l.pending.items;
      counted : l.fn.tally.tests ≤ l.tally.tests;
      runs : l.tally.runs ≡ l.fn.tally.runs;
      room : vec_capacity l.pending ≡ vec_capacity l.fn.pending;
      out : length l.out ≡ length l.fn.out;
      size : length l.reached ≡ length l.fn.reached;
    }
