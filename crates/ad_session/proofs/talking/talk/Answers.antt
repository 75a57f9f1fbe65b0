-- By the lemmas on talks.
use Rattle.std.proofs.Common.{rules, arith, ◌∙◌}
use Rattle.ad_items.specs.Items.{bounds_of}
use Rattle.ad_session.proofs.TalkLemmas.{talked_none, talked_more_on, talk_pauses, talk_ends_on}
use Rattle.ad_session.proofs.talking.talk.Goals as goal

pub turns-init : goal.turns-init
turns-init g c = record {
  so = talked_none (bounds_of c.args.limits) c.args.limits.depth (g.L.Look.footing c.args.look.now) c.args.talk.now.answered _ (g.L.Look.sight c.args.look.now);
  chair = search rules;
  footing = search rules;
  limits = search rules;
  work = search rules;
  reads = omega arith;
  writes = omega arith;
}

pub turns-preserved : goal.turns-preserved
turns-preserved g c = record {
  so = talked_more_on (bounds_of c.args.limits) c.args.limits.depth (g.L.Look.footing c.args.look.now) (g.L.Look.footing c.turns.look) c.args.talk.now.answered c.turns.talk.answered _ _ _ _ _ _ c.turns.invariant.footing c.turns.invariant.so c.turns-test.true c.in-Said.ensures.turn;
  chair = c.turns.invariant.chair;
  footing = c.take_turn.ensures.footing ∙ c.turns.invariant.footing;
  limits = c.take_turn.ensures.limits ∙ c.turns.invariant.limits;
  work = c.take_turn.ensures.work ∙ c.turns.invariant.work;
  reads = omega (arith, c.turns.invariant.reads, c.take_turn.ensures.reads);
  writes = omega (arith, c.turns.invariant.writes, c.take_turn.ensures.writes);
}

pub returns-in-Edit-clause-talk : goal.returns-in-Edit-clause-talk
returns-in-Edit-clause-talk g c =
    talk_pauses (bounds_of c.args.limits) c.args.limits.depth (g.L.Look.footing c.args.look.now) c.args.talk.now.answered c.turns.talk.answered _ _ _ _ _ _ c.in-Edit.batch c.in-Edit.expected c.turns.invariant.so c.turns-test.true c.in-Edit.ensures.turn.0 c.in-Edit.ensures.turn.1

pub returns-in-Ended-clause-talk : goal.returns-in-Ended-clause-talk
returns-in-Ended-clause-talk g c =
    talk_ends_on (bounds_of c.args.limits) c.in-Ended.end c.args.limits.depth (g.L.Look.footing c.args.look.now) (g.L.Look.footing c.turns.look) c.args.talk.now.answered c.turns.talk.answered _ _ _ _ _ _ c.turns.invariant.footing c.turns.invariant.reads c.turns.invariant.writes c.turns.invariant.so c.turns-test.true c.in-Ended.ensures.turn
