-- The session that was run, from a new machine on.
use Rattle.std.proofs.Common.{◌<◌, length, sym, ◌∙◌, ap, subst, arith}
use Rattle.ad_edition.specs.State.{State}
use Rattle.ad_session.specs.Flows.{flow}
use Rattle.ad_run.specs.Ends.{ScriptEnds}
use Rattle.ad_run.specs.Runs.{RunCause}
use Rattle.ad_run.proofs.EndLemmas.{session_cause, session_ends}
use Rattle.ad_run.proofs.script.run_script.Goals as goal

pub returns-clause-ends : goal.returns-clause-ends
returns-clause-ends g c =
    let a = flow (g.S.Source.left c.args.source.now) (g.S.Source.faults c.args.source.now) (g.K.Sink.written c.args.sink.now) (g.K.Sink.faults c.args.sink.now) in
    let b = flow (g.S.Source.left c.session-end.new.source) (g.S.Source.faults c.session-end.new.source) (g.K.Sink.written c.session-end.new.sink) (g.K.Sink.faults c.session-end.new.sink) in
    subst (ScriptEnds a b) (sym c.status_of.ensures)
    (session_ends a b c.session-end.new.machine c.standard-limits.result c.in-Ok.machine c.session-end.result c.standard-limits.ensures.standard c.in-Ok.ensures c.session-end.ensures.session)

pub returns-clause-cause : goal.returns-clause-cause
returns-clause-cause g c =
    let a = flow (g.S.Source.left c.args.source.now) (g.S.Source.faults c.args.source.now) (g.K.Sink.written c.args.sink.now) (g.K.Sink.faults c.args.sink.now) in
    let b = flow (g.S.Source.left c.session-end.new.source) (g.S.Source.faults c.session-end.new.source) (g.K.Sink.written c.session-end.new.sink) (g.K.Sink.faults c.session-end.new.sink) in
    subst (RunCause a b) (sym c.status_of.ensures)
    (session_cause a b c.session-end.new.machine _ _ c.session-end.result c.session-end.ensures.session c.session-end.ensures.reads c.session-end.ensures.writes)

pub session-end-requires-clause-index : goal.session-end-requires-clause-index
session-end-requires-clause-index g c = λ κs lives. subst (λ machine. 0 < length machine.entered) (sym c.in-Ok.ensures) (omega arith)

pub session-end-requires-clause-work : goal.session-end-requires-clause-work
session-end-requires-clause-work g c = λ κs lives. c.in-Ok-new.ensures.limits ∙ sym (ap (λ (machine : State). machine.limits) c.in-Ok.ensures)
