-- By the lemmas on rounds and on runs.
use Rattle.std.proofs.Common.{◌≡◌, ◌<◌, ◌≤◌, arith, ◌∙◌, sym, ap, subst, refl}
use Rattle.ad_base.specs.declared.limits.Limits.{Limits}
use Rattle.ad_edition.specs.State.{State, IsMachine, after_attend, entered_by}
use Rattle.ad_edition.specs.Sight.{IsFront}
use Rattle.ad_items.specs.Items.{bounds_of}
use Rattle.ad_session.specs.declared.work.Talk.{Talk}
use Rattle.ad_session.specs.Flows.{flow}
use Rattle.ad_session.specs.Machines.{MachineAnswers}
use Rattle.ad_session.proofs.PassLemmas.{run_limits, run_session, run_others, run_grows}
use Rattle.ad_session.proofs.RoundLemmas.{RoundsSo, rounds_none, rounds_more_in, rounds_end_in, round_within}
use Rattle.ad_session.proofs.StateLemmas.{session_from}
use Rattle.ad_session.proofs.sessions.session.Goals as goal

pub rounds-init : goal.rounds-init
rounds-init g c =
    let none : c.new-answered.result.answered ≡ 0 = ap (λ (t : Talk). t.answered) c.new-answered.ensures in
    let first = flow (g.S.Source.left c.args.source.now) (g.S.Source.faults c.args.source.now) (g.K.Sink.written c.args.sink.now) (g.K.Sink.faults c.args.sink.now) in
    let machine = c.attend.new.self in
    record {
      so = subst (λ n. RoundsSo MachineAnswers (bounds_of machine.limits) n first first machine machine) (sym none) (rounds_none MachineAnswers (bounds_of machine.limits) first machine);
      is = c.laws.ensures;
      chair = ap (λ (t : Talk). t.chair) c.new-answered.ensures;
      looks = ap (λ (m : State). m.session) c.attend.ensures;
      work = refl;
      reads = omega arith;
      writes = omega arith;
    }

-- what the machine's session can't change
pub take_round-requires-clause-looks : goal.take_round-requires-clause-looks
take_round-requires-clause-looks g c = λ κs lives.
    let so = c.rounds.invariant in
    run_session c.attend.new.self c.rounds.machine so.so.items so.so.replies so.so.run ∙ so.looks ∙ sym so.chair

pub take_round-requires-clause-work : goal.take_round-requires-clause-work
take_round-requires-clause-work g c = λ κs lives.
    let so = c.rounds.invariant in
    let kept = run_limits c.attend.new.self c.rounds.machine so.so.items so.so.replies so.so.run in
    so.work ∙ c.requires.work ∙ sym (ap (λ (m : State). m.limits) c.attend.ensures) ∙ sym kept

pub rounds-smaller : goal.rounds-smaller
rounds-smaller g c =
    let so = c.rounds.invariant in
    let limits : c.rounds.machine.limits ≡ c.attend.new.self.limits = run_limits c.attend.new.self c.rounds.machine so.so.items so.so.replies so.so.run in
    let within = round_within MachineAnswers (bounds_of c.rounds.machine.limits) c.rounds.answered.answered c.take_round.new.answered.answered _ _ _ _ c.in-None.ensures.round in
    let more : c.rounds.answered.answered < c.take_round.new.answered.answered = within.0 in
    let few : c.take_round.new.answered.answered ≤ c.attend.new.self.limits.requests = subst (λ (l : Limits). c.take_round.new.answered.answered ≤ l.requests) limits within.1 in
    omega (arith, more, few)

pub rounds-preserved : goal.rounds-preserved
rounds-preserved g c =
    let so = c.rounds.invariant in
    let machine = c.attend.new.self in
    let limits = run_limits machine c.rounds.machine so.so.items so.so.replies so.so.run in
    record {
      so = rounds_more_in MachineAnswers (bounds_of machine.limits) (bounds_of c.rounds.machine.limits) c.rounds.answered.answered c.take_round.new.answered.answered _ _ _ machine c.rounds.machine c.take_round.new.machine (ap bounds_of limits) so.so c.in-None.ensures.round;
      is = so.is;
      chair = c.take_round.ensures.chair ∙ so.chair;
      looks = so.looks;
      work = c.take_round.ensures.work ∙ so.work;
      reads = omega (arith, so.reads, c.take_round.ensures.reads);
      writes = omega (arith, so.writes, c.take_round.ensures.writes);
    }

pub returns-in-Some : goal.returns-in-Some
returns-in-Some g c =
    let so = c.rounds.invariant in
    let machine = c.attend.new.self in
    let given = after_attend c.args.machine.now c.args.index in
    let limits = run_limits machine c.rounds.machine so.so.items so.so.replies so.so.run in
    let whole = rounds_end_in MachineAnswers (bounds_of machine.limits) (bounds_of c.rounds.machine.limits) c.rounds.answered.answered c.take_round.new.answered.answered c.in-Some.end _ _ _ machine c.rounds.machine c.take_round.new.machine (ap bounds_of limits) so.so so.reads so.writes c.in-Some.ensures.round in
    let session = session_from machine given c.take_round.new.machine c.in-Some.end _ _ c.attend.ensures whole in
    let at = run_session given c.take_round.new.machine session.items session.replies session.run in
    let others = run_others given c.take_round.new.machine session.items session.replies session.run in
    record {
      session = session;
      entered =
          subst (λ k. IsFront (entered_by c.args.machine.now c.args.index) (entered_by c.take_round.new.machine k)) at
          (run_grows given c.take_round.new.machine session.items session.replies (subst IsMachine c.attend.ensures so.is) session.run);
      others = record { limits = others.limits; others = others.others };
      looks = at;
      work = c.take_round.ensures.work ∙ so.work;
      reads = omega (arith, so.reads, c.take_round.ensures.reads);
      writes = omega (arith, so.writes, c.take_round.ensures.writes);
    }
