-- Each axiom is taken, or local for the symbols that are settled; each turn takes an axiom, or leaves one symbol fewer waiting.
use Rattle.std.proofs.Common.{◌≡◌, ℕ, ◌+◌, ◌-◌, ◌*◌, ◌≤◌, ◌⊎◌, length, vec_capacity, IsTrue}
use Rattle.ad_bits.specs.Rows.{has, member_count}
use Rattle.ad_theory.specs.Numbers.{among, logic_of}
use Rattle.ad_theory.specs.Sweep.{IsGathered}
use Rattle.ad_extract.specs.Waiting.{IsWaiting, settled}
use Rattle.ad_joined.proofs.search.run.Given as goal

abbrev pub invariant-waiting : goal.invariant-waiting
invariant-waiting g l =
    let L = logic_of (g.U.Universe.symbols_of l.universe) (g.U.Universe.is_local l.universe l.fn.side) in
    let O : ℕ → Type 0 = λ i. IsTrue (g.U.Universe.is_live l.universe i) in
    record {
      waiting : IsWaiting l.pending.items l.reached;
      gathered : IsGathered L (among (g.U.Universe.symbols_of l.universe l.fn.slot)) O (λ i. IsTrue (has l.out i)) (has l.reached);
      rest : (i : ℕ) → O i → IsTrue (has l.out i) ⊎ IsTrue (g.U.Universe.is_local l.universe l.fn.side (settled l.pending.items l.reached) i);
      counted : l.fn.tally.tests ≤ l.tally.tests;
      runs : l.tally.runs ≡ l.fn.tally.runs;
      room : vec_capacity l.pending ≡ vec_capacity l.fn.pending;
      out : length l.out ≡ length l.fn.out;
      reached : length l.reached ≡ length l.fn.reached;
      left : length l.left ≡ length l.fn.left;
    }

abbrev pub decreases-waiting : goal.decreases-waiting
decreases-waiting g l = 65537 * (65536 - member_count l.out) + length l.pending.items
