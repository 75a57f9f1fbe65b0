-- Each axiom in `within` is taken, or local for the symbols that are settled.
use Rattle.std.proofs.Common.{◌≡◌, ℕ, ◌+◌, ◌-◌, ◌≤◌, ◌⊎◌, length, vec_capacity, IsTrue}
use Rattle.ad_bits.specs.Rows.{has}
use Rattle.ad_theory.specs.Numbers.{logic_of, sum_where}
use Rattle.ad_theory.specs.Sweep.{IsGathered}
use Rattle.ad_extract.specs.Waiting.{IsWaiting, settled}
use Rattle.ad_extract.proofs.queue.QueueHalf.module.Given as goal

abbrev pub invariant-waiting : goal.invariant-waiting
invariant-waiting g l =
    let L = logic_of (g.U.Universe.symbols_of l.universe) (g.U.Universe.is_local l.universe l.fn.side) in
    let O : ℕ → Type 0 = λ i. IsTrue (g.U.Universe.is_live l.universe i) × IsTrue (has l.within i) in
    record {
      waiting : IsWaiting l.self.pending.items l.closure;
      gathered : IsGathered L (has l.seed) O (λ i. IsTrue (has l.out i)) (has l.closure);
      rest : (i : ℕ) → O i → IsTrue (has l.out i) ⊎ IsTrue (g.U.Universe.is_local l.universe l.fn.side (settled l.self.pending.items l.closure) i);
      tests : l.tally.tests ≤ l.fn.tally.tests + length (g.U.Universe.globals_of l.universe l.fn.side) + sum_where (settled l.self.pending.items l.closure) (λ s. length (g.U.Universe.slots_of l.universe s)) (g.U.Universe.symbol_count l.universe);
      counted : l.fn.tally.tests ≤ l.tally.tests;
      runs : l.tally.runs ≡ l.fn.tally.runs;
      out : length l.out ≡ length l.fn.out;
      closure : length l.closure ≡ length l.fn.closure;
      limits : l.self.limits ≡ l.fn.self.limits;
      room : vec_capacity l.self.pending ≡ vec_capacity l.fn.self.pending;
    }

abbrev pub decreases-waiting : goal.decreases-waiting
decreases-waiting g l = g.U.Universe.symbol_count l.universe - sum_where (settled l.self.pending.items l.closure) (λ _. 1) (g.U.Universe.symbol_count l.universe)
