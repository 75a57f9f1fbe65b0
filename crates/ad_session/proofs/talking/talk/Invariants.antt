-- All items so far were answered.
use Rattle.std.proofs.Common.{◌≡◌, ◌≤◌, ◌-◌}
use Rattle.ad_items.specs.Items.{bounds_of}
use Rattle.ad_session.specs.Flows.{flow}
use Rattle.ad_session.proofs.TalkLemmas.{TalkedSo}
use Rattle.ad_session.proofs.talking.talk.Given as goal

abbrev pub invariant-turns : goal.invariant-turns
invariant-turns g l = record {
  so : TalkedSo (bounds_of l.limits) l.limits.depth (g.L.Look.footing l.initial.look) l.initial.talk.answered l.talk.answered (flow (g.S.Source.left l.initial.source) (g.S.Source.faults l.initial.source) (g.K.Sink.written l.initial.sink) (g.K.Sink.faults l.initial.sink)) (flow (g.S.Source.left l.source) (g.S.Source.faults l.source) (g.K.Sink.written l.sink) (g.K.Sink.faults l.sink)) (g.L.Look.sight l.initial.look) (g.L.Look.sight l.look);
  chair : l.talk.chair ≡ l.initial.talk.chair;
  footing : g.L.Look.footing l.look ≡ g.L.Look.footing l.initial.look;
  limits : g.L.Look.limits l.look ≡ g.L.Look.limits l.initial.look;
  work : l.work.limits ≡ l.initial.work.limits;
  reads : g.S.Source.faults l.initial.source ≤ g.S.Source.faults l.source;
  writes : g.K.Sink.faults l.initial.sink ≤ g.K.Sink.faults l.sink;
}

abbrev pub decreases-turns : goal.decreases-turns
decreases-turns g l = l.limits.requests - l.talk.answered
