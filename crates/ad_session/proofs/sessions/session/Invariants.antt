-- All items so far were answered.
use Rattle.std.proofs.Common.{◌≡◌, ◌≤◌, ◌-◌}
use Rattle.ad_edition.specs.State.{IsMachine}
use Rattle.ad_items.specs.Items.{bounds_of}
use Rattle.ad_session.specs.Flows.{flow}
use Rattle.ad_session.specs.Machines.{MachineAnswers}
use Rattle.ad_session.proofs.RoundLemmas.{RoundsSo}
use Rattle.ad_session.proofs.sessions.session.Given as goal

abbrev pub invariant-rounds : goal.invariant-rounds
invariant-rounds g l = record {
  so : RoundsSo MachineAnswers (bounds_of l.initial.machine.limits) l.answered.answered (flow (g.S.Source.left l.initial.source) (g.S.Source.faults l.initial.source) (g.K.Sink.written l.initial.sink) (g.K.Sink.faults l.initial.sink)) (flow (g.S.Source.left l.source) (g.S.Source.faults l.source) (g.K.Sink.written l.sink) (g.K.Sink.faults l.sink)) l.initial.machine l.machine;
  is : IsMachine l.initial.machine;
  chair : l.answered.chair ≡ l.index;
  looks : l.initial.machine.session ≡ l.index;
  work : l.work.limits ≡ l.initial.work.limits;
  reads : g.S.Source.faults l.initial.source ≤ g.S.Source.faults l.source;
  writes : g.K.Sink.faults l.initial.sink ≤ g.K.Sink.faults l.sink;
}

abbrev pub decreases-rounds : goal.decreases-rounds
decreases-rounds g l = l.initial.machine.limits.requests - l.answered.answered
