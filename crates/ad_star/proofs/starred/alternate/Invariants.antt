-- What was found is its own bottom module, and contains each part that is its own module on both sides.
use Rattle.std.proofs.Common.{◌≡◌, ℕ, ◌≤◌, length, IsTrue}
use Rattle.ad_base.specs.declared.limits.Side.TheVariants.{Bottom, Top}
use Rattle.ad_bits.specs.Rows.{has, member_count}
use Rattle.ad_theory.specs.Numbers.{logic_of}
use Rattle.ad_theory.specs.Module.{IsFixed}
use Rattle.ad_theory.specs.Alternation.{IsAboveStar}
use Rattle.ad_star.proofs.starred.alternate.Given as goal

abbrev pub invariant-rounds : goal.invariant-rounds
invariant-rounds g l =
    let B = logic_of (g.U.Universe.symbols_of l.universe) (g.U.Universe.is_local l.universe Bottom) in
    let T = logic_of (g.U.Universe.symbols_of l.universe) (g.U.Universe.is_local l.universe Top) in
    record {
      within : (i : ℕ) → IsTrue (has l.found i) → IsTrue (g.U.Universe.is_live l.universe i) × IsTrue (has l.start i);
      fixed : IsFixed B (has l.seed) (has l.found);
      above : IsAboveStar B T (has l.seed) (λ i. IsTrue (g.U.Universe.is_live l.universe i) × IsTrue (has l.start i)) (has l.found);
      out : length l.out ≡ length l.fn.out;
      closure : length l.closure ≡ length l.fn.closure;
      room : length l.found ≡ length l.fn.found;
      counted : l.fn.tally.tests ≤ l.tally.tests;
      runs : l.tally.runs ≡ l.fn.tally.runs;
      limits : g.H.Half.made_for l.half ≡ g.H.Half.made_for l.fn.half;
    }

abbrev pub decreases-rounds : goal.decreases-rounds
decreases-rounds g l = member_count l.found
