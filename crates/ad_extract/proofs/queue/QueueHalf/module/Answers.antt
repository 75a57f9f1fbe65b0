-- Each symbol that is popped settles: the axioms in which it stands are looked at, and all others stay local.
use Rattle.std.proofs.Common.{◌≡◌, ◌≢◌, ◌∙◌, ℕ, ◌+◌, ◌-◌, ◌<◌, ◌≤◌, Bool, false, IsTrue, inl, inr, refl, sym, subst, ap, length, arith}
use Rattle.ad_bits.specs.Rows.{has}
use Rattle.ad_bits.proofs.Rows.{within_size}
use Rattle.ad_theory.specs.Numbers.{among, logic_of, sum_where}
use Rattle.ad_theory.proofs.Members.{either, not_both}
use Rattle.ad_theory.proofs.SweepLemmas.{gathered_begins}
use Rattle.ad_extract.specs.Waiting.{settled}
use Rattle.ad_extract.proofs.WaitingLemmas.{pops, popped_reached, popped_waited, popped_settled, popped_other}
use Rattle.ad_extract.proofs.SearchLemmas.{settled_local, stays_local, sum_more, sum_ones}
use Rattle.ad_extract.proofs.queue.QueueHalf.module.Goals as goal

pub waiting-init : goal.waiting-init
waiting-init g c =
    let u = c.args.universe.now in
    let symbols = g.U.Universe.symbols_of u in
    let local = g.U.Universe.is_local u c.args.side in
    let antitone = g.met.U.Universe.antitone u c.args.side in
    let looks = c.look_at_all.ensures in
    let now : ℕ → Bool = settled c.look_at_all.new.pending.items c.look_at_all.new.reached in
    let first : ℕ → Bool = settled c.begin.new.pending.items c.begin.new.reached in
    let none : ℕ → Bool = λ _. false in
    record {
      waiting = looks.waiting;
      gathered = looks.gathered (has c.args.seed.now)
          (gathered_begins (logic_of symbols local) (has c.args.seed.now) (λ i. IsTrue (g.U.Universe.is_live u i) × IsTrue (has c.args.within.now i))
          (λ i. IsTrue (has c.clear.new.self i)) (has c.begin.new.reached) (λ i t. not_both t (c.clear.ensures.empty i)) c.begin.ensures.seed);
      rest = λ i o. elim (either (local none i)) [
        | inl t ↦ inr (settled_local symbols local antitone now none i (λ e s. absurd (not_both s (looks.settled e ∙ c.begin.ensures.settled e))) t)
        | inr f ↦ elim (looks.looked i (subst (λ l. IsTrue (among l i)) (sym c.global-global.ensures) ((g.met.U.Universe.globals u c.args.side i).1 (o.0, f))) o.1) [
          | inl t ↦ inl t
          | inr h ↦ absurd (not_both (settled_local symbols local antitone none first i (λ e s. absurd (not_both s refl)) h) f)
        ]
      ];
      tests = omega (arith, looks.tests, ap length c.global-global.ensures);
      counted = looks.counted;
      runs = looks.runs;
      out = looks.out ∙ c.clear.ensures.size;
      closure = looks.reached ∙ c.begin.ensures.size;
      limits = refl;
      room = looks.room ∙ c.begin.ensures.room;
    }

pub occurs-occurs-requires : goal.occurs-occurs-requires
occurs-occurs-requires g c =
    let v = c.waiting.invariant in
    let reached = popped_reached c.waiting.self.pending.items c.pop.new.self.items c.waiting.closure c.in-Some.symbol c.in-Some.ensures.items v.waiting in
    let below : c.in-Some.symbol < length c.waiting.closure = within_size c.waiting.closure c.in-Some.symbol reached in
    omega (arith, below, v.closure, c.requires.closure)

pub look_at_all-requires-in-Some-clause-waiting : goal.look_at_all-requires-in-Some-clause-waiting
look_at_all-requires-in-Some-clause-waiting g c =
    pops c.waiting.self.pending.items c.pop.new.self.items c.waiting.closure c.in-Some.symbol c.in-Some.ensures.items c.waiting.invariant.waiting

pub waiting-smaller : goal.waiting-smaller
waiting-smaller g c =
    let v = c.waiting.invariant in
    let e = c.look_at_all-in-Some.ensures in
    let n = g.U.Universe.symbol_count c.args.universe.now in
    let s = c.in-Some.symbol in
    let before : ℕ → Bool = settled c.waiting.self.pending.items c.waiting.closure in
    let after : ℕ → Bool = settled c.look_at_all-in-Some.new.pending.items c.look_at_all-in-Some.new.reached in
    let ones : ℕ → ℕ = λ _. 1 in
    let reached = popped_reached c.waiting.self.pending.items c.pop.new.self.items c.waiting.closure s c.in-Some.ensures.items v.waiting in
    let below : s < length c.waiting.closure = within_size c.waiting.closure s reached in
    let below_n : s < n = omega (arith, below, v.closure, c.requires.closure) in
    let more : sum_where after ones n ≡ sum_where before ones n + 1 = sum_more before after ones n s below_n
    (popped_waited c.waiting.self.pending.items c.pop.new.self.items c.waiting.closure s c.in-Some.ensures.items v.waiting)
    (e.settled s ∙ popped_settled c.waiting.self.pending.items c.pop.new.self.items c.waiting.closure s c.in-Some.ensures.items v.waiting)
    (λ k other. e.settled k ∙ popped_other c.waiting.self.pending.items c.pop.new.self.items c.waiting.closure s c.in-Some.ensures.items v.waiting k other) in
    let all : sum_where after ones n ≤ n = sum_ones after n in
    let smaller : n - sum_where after ones n < n - sum_where before ones n = omega (arith, more, all) in
    smaller

pub waiting-preserved : goal.waiting-preserved
waiting-preserved g c =
    let u = c.args.universe.now in
    let symbols = g.U.Universe.symbols_of u in
    let local = g.U.Universe.is_local u c.args.side in
    let antitone = g.met.U.Universe.antitone u c.args.side in
    let v = c.waiting.invariant in
    let e = c.look_at_all-in-Some.ensures in
    let n = g.U.Universe.symbol_count u in
    let s = c.in-Some.symbol in
    let costs : ℕ → ℕ = λ k. length (g.U.Universe.slots_of u k) in
    let before : ℕ → Bool = settled c.waiting.self.pending.items c.waiting.closure in
    let popped : ℕ → Bool = settled c.pop.new.self.items c.waiting.closure in
    let after : ℕ → Bool = settled c.look_at_all-in-Some.new.pending.items c.look_at_all-in-Some.new.reached in
    let reached = popped_reached c.waiting.self.pending.items c.pop.new.self.items c.waiting.closure s c.in-Some.ensures.items v.waiting in
    let below : s < length c.waiting.closure = within_size c.waiting.closure s reached in
    let below_n : s < n = omega (arith, below, v.closure, c.requires.closure) in
    let other : (k : ℕ) → k ≢ s → after k ≡ before k =
    (λ k ne. e.settled k ∙ popped_other c.waiting.self.pending.items c.pop.new.self.items c.waiting.closure s c.in-Some.ensures.items v.waiting k ne) in
    let more : sum_where after costs n ≡ sum_where before costs n + length (g.U.Universe.slots_of u s) = sum_more before after costs n s below_n
    (popped_waited c.waiting.self.pending.items c.pop.new.self.items c.waiting.closure s c.in-Some.ensures.items v.waiting)
    (e.settled s ∙ popped_settled c.waiting.self.pending.items c.pop.new.self.items c.waiting.closure s c.in-Some.ensures.items v.waiting)
    other in
    let tests = e.tests in
    let occurs = ap length c.occurs-occurs.ensures in
    record {
      waiting = e.waiting;
      gathered = e.gathered (has c.args.seed.now) v.gathered;
      rest = λ i o. elim (v.rest i o) [
        | inl t ↦ inl (e.kept i t)
        | inr h ↦ elim (stays_local symbols local antitone before after s i other h) [
          | inr h' ↦ inr h'
          | inl a ↦ elim (e.looked i (subst (λ l. IsTrue (among l i)) (sym c.occurs-occurs.ensures) ((g.met.U.Universe.occurrences u s i).1 (o.0, a))) o.1) [
            | inl t ↦ inl t
            | inr h' ↦ inr (settled_local symbols local antitone after popped i (λ k t. sym (e.settled k) ∙ t) h')
          ]
        ]
      ];
      tests = omega (arith, tests, occurs, more, v.tests);
      counted = omega (arith, e.counted, v.counted);
      runs = e.runs ∙ v.runs;
      out = e.out ∙ v.out;
      closure = e.reached ∙ v.closure;
      limits = v.limits;
      room = e.room ∙ c.pop.ensures.capacity ∙ v.room;
    }
