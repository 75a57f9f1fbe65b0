-- The output is that of the command.
use Rattle.std.proofs.Common.{refl, sym, subst}
use Rattle.ad_command.specs.Command.{of_summary}
use Rattle.ad_session.specs.Flows.{flow}
use Rattle.ad_run.specs.Ends.{EndsSo}
use Rattle.ad_run.specs.Runs.{RunCause}
use Rattle.ad_run.proofs.GeneratedLemmas.{given_ends, given_cause, given_asked}
use Rattle.ad_run.proofs.generated.run_summary.Goals as goal

pub returns-clause-ends : goal.returns-clause-ends
returns-clause-ends g c = λ left faults.
    let old = g.K.Sink.written c.args.sink.now in
    let new = g.K.Sink.written c.answer_summary.new.sink in
    let before = g.K.Sink.faults c.args.sink.now in
    let now = g.K.Sink.faults c.answer_summary.new.sink in
    subst (EndsSo c.args.words.now (flow left faults old before) (flow left faults new now)) (sym c.of_output.ensures)
    (given_ends c.args.words.now (of_summary c.args.size c.requires.number) c.requires.commanded refl left faults old new before now c.answer_summary.result (c.answer_summary.ensures.given c.requires.number))

pub returns-clause-asked : goal.returns-clause-asked
returns-clause-asked g c = given_asked c.answer_summary.result c.of_output.result c.of_output.ensures

pub returns-clause-cause : goal.returns-clause-cause
returns-clause-cause g c = λ left faults.
    let old = g.K.Sink.written c.args.sink.now in
    let new = g.K.Sink.written c.answer_summary.new.sink in
    let before = g.K.Sink.faults c.args.sink.now in
    let now = g.K.Sink.faults c.answer_summary.new.sink in
    subst (RunCause (flow left faults old before) (flow left faults new now)) (sym c.of_output.ensures)
    (given_cause left faults old new before now c.answer_summary.result c.answer_summary.ensures.cause c.answer_summary.ensures.untouched)
