-- Each symbol that is popped settles; where one of the axioms is met, the row is its own module.
use Rattle.std.proofs.Common.{◌≡◌, ◌∙◌, ℕ, ◌+◌, ◌-◌, ◌<◌, ◌≤◌, Bool, IsTrue, sym, subst, length, arith}
use Rattle.ad_bits.specs.Rows.{has}
use Rattle.ad_bits.proofs.Rows.{within_size}
use Rattle.ad_theory.specs.Numbers.{among, logic_of, sum_where}
use Rattle.ad_theory.proofs.Members.{not_both}
use Rattle.ad_theory.proofs.SweepLemmas.{gathered_begins}
use Rattle.ad_extract.specs.Waiting.{settled}
use Rattle.ad_extract.proofs.WaitingLemmas.{pops, popped_reached, popped_waited, popped_settled, popped_other}
use Rattle.ad_extract.proofs.SearchLemmas.{sum_more, sum_ones}
use Rattle.ad_joined.proofs.KnownLemmas.{met_fixed}
use Rattle.ad_joined.proofs.meets.meets.Goals as goal

pub returns-then-look_for-clause-fixed : goal.returns-then-look_for-clause-fixed
returns-then-look_for-clause-fixed g c t =
    let u = c.args.universe.now in
    let looks = c.look_for.ensures in
    let L = logic_of (g.U.Universe.symbols_of u) (g.U.Universe.is_local u c.args.side) in
    met_fixed L (g.met.U.Universe.antitone u c.args.side)
    (looks.gathered (has c.args.seed.now)
    (gathered_begins L (has c.args.seed.now) (λ i. IsTrue (has c.args.row.now i)) (λ i. IsTrue (has c.clear.new.self i)) (has c.begin.new.reached)
    (λ i t. not_both t (c.clear.ensures.empty i)) c.begin.ensures.seed))
    c.requires.fixed (looks.met c.if-look_for.true)

pub returns-then-look_for-2-clause-fixed : goal.returns-then-look_for-2-clause-fixed
returns-then-look_for-2-clause-fixed g c t =
    let u = c.args.universe.now in
    let looks = c.look_for-in-Some.ensures in
    met_fixed (logic_of (g.U.Universe.symbols_of u) (g.U.Universe.is_local u c.args.side)) (g.met.U.Universe.antitone u c.args.side)
    (looks.gathered (has c.args.seed.now) c.waiting.invariant.gathered) c.requires.fixed (looks.met c.if-look_for-2.true)

pub returns-then-look_for-clause-some : goal.returns-then-look_for-clause-some
returns-then-look_for-clause-some g c t = let met = c.look_for.ensures.met c.if-look_for.true in (met.0, met.1)

pub returns-then-look_for-2-clause-some : goal.returns-then-look_for-2-clause-some
returns-then-look_for-2-clause-some g c t = let met = c.look_for-in-Some.ensures.met c.if-look_for-2.true in (met.0, met.1)

pub waiting-init : goal.waiting-init
waiting-init g c =
    let u = c.args.universe.now in
    let L = logic_of (g.U.Universe.symbols_of u) (g.U.Universe.is_local u c.args.side) in
    let looks = c.look_for.ensures in
    record {
      waiting = looks.waiting;
      gathered = looks.gathered (has c.args.seed.now)
          (gathered_begins L (has c.args.seed.now) (λ i. IsTrue (has c.args.row.now i)) (λ i. IsTrue (has c.clear.new.self i)) (has c.begin.new.reached)
          (λ i t. not_both t (c.clear.ensures.empty i)) c.begin.ensures.seed);
      counted = looks.counted;
      runs = looks.runs;
      room = looks.room ∙ c.begin.ensures.room;
      out = looks.out ∙ c.clear.ensures.size;
      reached = looks.reached ∙ c.begin.ensures.size;
    }

pub occurs-occurs-requires : goal.occurs-occurs-requires
occurs-occurs-requires g c =
    let v = c.waiting.invariant in
    let reached = popped_reached c.waiting.pending.items c.pop.new.self.items c.waiting.reached c.in-Some.symbol c.in-Some.ensures.items v.waiting in
    let below : c.in-Some.symbol < length c.waiting.reached = within_size c.waiting.reached c.in-Some.symbol reached in
    omega (arith, below, v.reached, c.requires.reached)

pub look_for-requires-in-Some-clause-waiting : goal.look_for-requires-in-Some-clause-waiting
look_for-requires-in-Some-clause-waiting g c =
    pops c.waiting.pending.items c.pop.new.self.items c.waiting.reached c.in-Some.symbol c.in-Some.ensures.items c.waiting.invariant.waiting

pub waiting-smaller : goal.waiting-smaller
waiting-smaller g c =
    let v = c.waiting.invariant in
    let e = c.look_for-in-Some.ensures in
    let n = g.U.Universe.symbol_count c.args.universe.now in
    let s = c.in-Some.symbol in
    let items = c.waiting.pending.items in
    let left = c.pop.new.self.items in
    let before : ℕ → Bool = settled items c.waiting.reached in
    let after : ℕ → Bool = settled c.look_for-in-Some.new.pending.items c.look_for-in-Some.new.reached in
    let ones : ℕ → ℕ = λ _. 1 in
    let reached = popped_reached items left c.waiting.reached s c.in-Some.ensures.items v.waiting in
    let below : s < length c.waiting.reached = within_size c.waiting.reached s reached in
    let below_n : s < n = omega (arith, below, v.reached, c.requires.reached) in
    let more : sum_where after ones n ≡ sum_where before ones n + 1 = sum_more before after ones n s below_n
    (popped_waited items left c.waiting.reached s c.in-Some.ensures.items v.waiting)
    (e.settled s ∙ popped_settled items left c.waiting.reached s c.in-Some.ensures.items v.waiting)
    (λ k other. e.settled k ∙ popped_other items left c.waiting.reached s c.in-Some.ensures.items v.waiting k other) in
    let all : sum_where after ones n ≤ n = sum_ones after n in
    let smaller : n - sum_where after ones n < n - sum_where before ones n = omega (arith, more, all) in
    smaller

pub waiting-preserved : goal.waiting-preserved
waiting-preserved g c =
    let v = c.waiting.invariant in
    let e = c.look_for-in-Some.ensures in
    record {
      waiting = e.waiting;
      gathered = e.gathered (has c.args.seed.now) v.gathered;
      counted = omega (arith, e.counted, v.counted);
      runs = e.runs ∙ v.runs;
      room = e.room ∙ c.pop.ensures.capacity ∙ v.room;
      out = e.out ∙ v.out;
      reached = e.reached ∙ v.reached;
    }
