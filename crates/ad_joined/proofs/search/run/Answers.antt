-- Each symbol that is popped settles: the axioms in which it stands are looked at, and all others stay local.
use Rattle.std.proofs.Common.{◌≡◌, ◌∙◌, ℕ, ◌+◌, ◌<◌, ◌≤◌, Bool, IsTrue, [], ◌∷◌, inl, inr, sym, subst, ap, length, length-append, arith}
use Rattle.ad_bits.specs.Rows.{has, member_count}
use Rattle.ad_bits.proofs.Rows.{within_size, member_count-le}
use Rattle.ad_theory.specs.Numbers.{among, logic_of}
use Rattle.ad_theory.proofs.Members.{not_both}
use Rattle.ad_theory.proofs.SweepLemmas.{gathered_begins}
use Rattle.ad_extract.specs.Waiting.{settled}
use Rattle.ad_extract.proofs.WaitingLemmas.{pops, popped_reached, popped_other}
use Rattle.ad_extract.proofs.SearchLemmas.{stays_local}
use Rattle.ad_joined.proofs.search.run.Goals as goal

pub waiting-init : goal.waiting-init
waiting-init g c =
    let u = c.args.universe.now in
    let symbols = g.U.Universe.symbols_of u in
    let local = g.U.Universe.is_local u c.args.side in
    let looks = c.look_and_join.ensures in
    let seed : ℕ → Bool = among (symbols c.args.slot) in
    record {
      waiting = looks.waiting;
      gathered = looks.gathered seed
          (gathered_begins (logic_of symbols local) seed (λ i. IsTrue (g.U.Universe.is_live u i))
          (λ i. IsTrue (has c.clear.new.self i)) (has c.reach_all.new.reached) (λ i t. not_both t (c.clear.ensures.empty i))
          (λ e. (
            (λ t. elim ((c.reach_all.ensures.also e).0 t) [ inl b ↦ absurd (not_both b (c.clear-2.ensures.empty e)) | inr s ↦ subst (λ l. IsTrue (among l e)) c.signature.ensures s ]),
            (λ s. (c.reach_all.ensures.also e).1 (inr (subst (λ l. IsTrue (among l e)) (sym c.signature.ensures) s))),
          )));
      rest = looks.rest;
      counted = looks.counted;
      runs = looks.runs;
      room = looks.room ∙ c.reach_all.ensures.room ∙ c.clear-3.ensures.capacity;
      out = looks.out ∙ c.clear.ensures.size;
      reached = looks.reached ∙ c.reach_all.ensures.size ∙ c.clear-2.ensures.size;
      left = looks.left;
    }

pub occurs-occurs-requires : goal.occurs-occurs-requires
occurs-occurs-requires g c =
    let v = c.waiting.invariant in
    let reached = popped_reached c.waiting.pending.items c.pop.new.self.items c.waiting.reached c.in-Some.symbol c.in-Some.ensures.items v.waiting in
    let below : c.in-Some.symbol < length c.waiting.reached = within_size c.waiting.reached c.in-Some.symbol reached in
    omega (arith, below, v.reached, c.requires.reached)

pub look_and_join-requires-in-Some-clause-waiting : goal.look_and_join-requires-in-Some-clause-waiting
look_and_join-requires-in-Some-clause-waiting g c =
    pops c.waiting.pending.items c.pop.new.self.items c.waiting.reached c.in-Some.symbol c.in-Some.ensures.items c.waiting.invariant.waiting

pub look_and_join-requires-in-Some-clause-rest : goal.look_and_join-requires-in-Some-clause-rest
look_and_join-requires-in-Some-clause-rest g c i o =
    let u = c.args.universe.now in
    let symbols = g.U.Universe.symbols_of u in
    let local = g.U.Universe.is_local u c.args.side in
    let v = c.waiting.invariant in
    let s = c.in-Some.symbol in
    elim (v.rest i o) [
      | inl t ↦ inr (inl t)
      | inr h ↦ elim (stays_local symbols local (g.met.U.Universe.antitone u c.args.side) (settled c.waiting.pending.items c.waiting.reached) (settled c.pop.new.self.items c.waiting.reached) s i
          (popped_other c.waiting.pending.items c.pop.new.self.items c.waiting.reached s c.in-Some.ensures.items v.waiting) h) [
            | inl a ↦ inl (subst (λ l. IsTrue (among l i)) (sym c.occurs-occurs.ensures) ((g.met.U.Universe.occurrences u s i).1 (o, a)))
            | inr h' ↦ inr (inr h')
          ]
    ]

pub waiting-smaller : goal.waiting-smaller
waiting-smaller g c =
    let u = c.args.universe.now in
    let v = c.waiting.invariant in
    let e = c.look_and_join-in-Some.ensures in
    let before = member_count c.waiting.out in
    let after = member_count c.look_and_join-in-Some.new.out in
    let waits = length c.look_and_join-in-Some.new.pending.items in
    let small = g.met.U.Universe.small u in
    let most : after ≤ length c.look_and_join-in-Some.new.out = member_count-le c.look_and_join-in-Some.new.out in
    let room = e.waiting.room in
    let most_reached = member_count-le c.look_and_join-in-Some.new.reached in
    let few : after ≤ 65536 = omega (arith, most, e.out, v.out, c.requires.out, small.0) in
    let short : waits ≤ 65536 = omega (arith, room, most_reached, e.reached, v.reached, c.requires.reached, small.1) in
    let popped : length c.waiting.pending.items ≡ length c.pop.new.self.items + 1 = ap length c.in-Some.ensures.items ∙ length-append c.pop.new.self.items (c.in-Some.symbol ∷ []) in
    elim e.moved [
      | inl more ↦ omega (arith, more, few, short)
      | inr same ↦ (let one : after ≡ before = ap member_count same.0 in let two : waits ≡ length c.pop.new.self.items = ap length same.1 in omega (arith, one, two, popped))
    ]

pub waiting-preserved : goal.waiting-preserved
waiting-preserved g c =
    let v = c.waiting.invariant in
    let e = c.look_and_join-in-Some.ensures in
    record {
      waiting = e.waiting;
      gathered = e.gathered _ v.gathered;
      rest = e.rest;
      counted = omega (arith, e.counted, v.counted);
      runs = e.runs ∙ v.runs;
      room = e.room ∙ c.pop.ensures.capacity ∙ v.room;
      out = e.out ∙ v.out;
      reached = e.reached ∙ v.reached;
      left = e.left ∙ v.left;
    }
