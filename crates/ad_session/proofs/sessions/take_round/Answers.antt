-- By the lemmas on a round.
use Rattle.std.proofs.Common.{◌≡◌, ◌≤◌, arith, ◌∙◌, sym, ap, subst, refl}
use Rattle.ad_base.specs.declared.limits.Limits.{Limits}
use Rattle.ad_core.proofs.LookLemmas.{footing_tells}
use Rattle.ad_session.specs.declared.work.Talk.{Talk}
use Rattle.ad_session.proofs.StateLemmas.{Talked, Commits, round_ends, round_edits}
use Rattle.ad_session.proofs.sessions.take_round.Goals as goal

pub returns-in-Ended : goal.returns-in-Ended
returns-in-Ended g c =
    let talked : Talked c.args.machine.now c.talk.new.look = record {
      before = c.laws.ensures;
      after = c.laws-in-Ended.ensures;
      footing = c.talk.ensures.footing;
      limits = c.talk.ensures.limits;
    } in
    record {
      round = round_ends c.limits-limits.result c.args.answered.now.answered c.talk.new.talk.answered c.in-Ended.end _ _ c.args.machine.now c.talk.new.look c.limits-limits.ensures.limits talked c.in-Ended.ensures.talk;
      chair = c.talk.ensures.chair;
      work = c.talk.ensures.work;
      reads = c.talk.ensures.reads;
      writes = c.talk.ensures.writes;
    }

pub returns-in-Edit : goal.returns-in-Edit
returns-in-Edit g c =
    let machine = c.talk.new.look in
    let tells = footing_tells c.args.machine.now c.talk.new.look c.talk.ensures.footing in
    let index : c.chair-index.result ≡ c.talk.new.look.session = c.chair-index.ensures ∙ sym c.requires.looks ∙ sym tells.0 in
    let talked : Talked c.args.machine.now c.talk.new.look = record {
      before = c.laws.ensures;
      after = c.laws-in-Edit.ensures;
      footing = c.talk.ensures.footing;
      limits = c.talk.ensures.limits;
    } in
    let commits : Commits c.talk.new.look c.chair-index.result c.in-Edit.batch c.in-Edit.expected c.commit-outcome.result c.commit-outcome.new.self = record {
      accepted = c.commit-outcome.ensures.accepted;
      receipt = c.commit-outcome.ensures.receipt;
      expected_so = c.commit-outcome.ensures.expected;
      within = c.commit-outcome.ensures.within;
      refused = c.commit-outcome.ensures.refused;
      unchanged = c.commit-outcome.ensures.unchanged;
    } in
    let committed = subst (λ n. Commits c.talk.new.look n c.in-Edit.batch c.in-Edit.expected c.commit-outcome.result c.commit-outcome.new.self) index commits in
    let few = c.limits-limits.ensures.standard.requests in
    record {
      round = round_edits c.limits-limits.result c.args.answered.now.answered c.talk.new.talk.answered c.answer.new.talk.answered c.in-Edit.batch c.in-Edit.expected c.commit-outcome.result c.answer.result _ _ _ c.args.machine.now c.talk.new.look c.commit-outcome.new.self c.limits-limits.ensures.limits (subst (λ (l : Limits). l.requests ≤ 4294967295) c.limits-limits.ensures.limits few) talked c.in-Edit.ensures.talk committed refl c.talk.ensures.writes c.answer.ensures.bytes c.answer.ensures.cause (ap (λ (t : Talk). t.answered) c.answer.ensures.counted) c.answer.ensures.ended;
      chair = ap (λ (t : Talk). t.chair) c.answer.ensures.counted ∙ c.talk.ensures.chair;
      work = c.talk.ensures.work;
      reads = c.talk.ensures.reads;
      writes = omega (arith, c.talk.ensures.writes, c.answer.ensures.cause.later);
    }
