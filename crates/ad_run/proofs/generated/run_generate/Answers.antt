-- The output is that of the command.
use Rattle.std.proofs.Common.{refl, sym, subst}
use Rattle.ad_command.specs.Command.{of_generate}
use Rattle.ad_session.specs.Flows.{flow}
use Rattle.ad_run.specs.Ends.{EndsSo}
use Rattle.ad_run.specs.Runs.{RunCause}
use Rattle.ad_run.proofs.GeneratedLemmas.{given_ends, given_cause, given_asked}
use Rattle.ad_run.proofs.generated.run_generate.Goals as goal

pub returns-clause-ends : goal.returns-clause-ends
returns-clause-ends g c = λ left faults.
    let old = g.K.Sink.written c.args.sink.now in
    let new = g.K.Sink.written c.answer_generate.new.sink in
    let before = g.K.Sink.faults c.args.sink.now in
    let now = g.K.Sink.faults c.answer_generate.new.sink in
    subst (EndsSo c.args.words.now (flow left faults old before) (flow left faults new now)) (sym c.of_output.ensures)
    (given_ends c.args.words.now (of_generate c.args.size) c.requires refl left faults old new before now c.answer_generate.result c.answer_generate.ensures.given)

pub returns-clause-asked : goal.returns-clause-asked
returns-clause-asked g c = given_asked c.answer_generate.result c.of_output.result c.of_output.ensures

pub returns-clause-cause : goal.returns-clause-cause
returns-clause-cause g c = λ left faults.
    let old = g.K.Sink.written c.args.sink.now in
    let new = g.K.Sink.written c.answer_generate.new.sink in
    let before = g.K.Sink.faults c.args.sink.now in
    let now = g.K.Sink.faults c.answer_generate.new.sink in
    subst (RunCause (flow left faults old before) (flow left faults new now)) (sym c.of_output.ensures)
    (given_cause left faults old new before now c.answer_generate.result c.answer_generate.ensures.cause c.answer_generate.ensures.untouched)
