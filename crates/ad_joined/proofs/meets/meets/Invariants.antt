-- What is taken was gathered within the row; each turn settles one more symbol.
use Rattle.std.proofs.Common.{◌≡◌, ℕ, ◌-◌, ◌≤◌, length, vec_capacity, IsTrue}
use Rattle.ad_bits.specs.Rows.{has}
use Rattle.ad_theory.specs.Numbers.{logic_of, sum_where}
use Rattle.ad_theory.specs.Sweep.{IsGathered}
use Rattle.ad_extract.specs.Waiting.{IsWaiting, settled}
use Rattle.ad_joined.proofs.meets.meets.Given as goal

abbrev pub invariant-waiting : goal.invariant-waiting
invariant-waiting g l =
    let L = logic_of (g.U.Universe.symbols_of l.universe) (g.U.Universe.is_local l.universe l.fn.side) in
    record {
      waiting : IsWaiting l.pending.items l.reached;
      gathered : IsGathered L (has l.seed) (λ i. IsTrue (has l.row i)) (λ i. IsTrue (has l.out i)) (has l.reached);
      counted : l.fn.tally.tests ≤ l.tally.tests;
      runs : l.tally.runs ≡ l.fn.tally.runs;
      room : vec_capacity l.pending ≡ vec_capacity l.fn.pending;
      out : length l.out ≡ length l.fn.out;
      reached : length l.reached ≡ length l.fn.reached;
    }

abbrev pub decreases-waiting : goal.decreases-waiting
decreases-waiting g l = g.U.Universe.symbol_count l.universe - sum_where (settled l.pending.items l.reached) (λ _. 1) (g.U.Universe.symbol_count l.universe)
