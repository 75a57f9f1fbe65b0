-- The words are those of the module, and the answer is on the text that was read.
use Rattle.std.proofs.Common.{◌≤◌, length, refl, sym, subst}
use Rattle.ad_io.specs.Flow.{Loses}
use Rattle.ad_io.proofs.FlowLemmas.{gains_nothing}
use Rattle.ad_session.specs.Flows.{flow}
use Rattle.ad_command.specs.Command.{of_module}
use Rattle.ad_run.specs.Ends.{EndsSo}
use Rattle.ad_run.proofs.EndLemmas.{answered_ends}
use Rattle.ad_run.proofs.run.run_module.Goals as goal

pub returns-in-Err-clause-ends : goal.returns-in-Err-clause-ends
returns-in-Err-clause-ends g c = record { command = of_module c.args.kind c.requires.1.seed; commanded = c.requires.1.commanded; ran = gains_nothing _ }

pub returns-clause-ends : goal.returns-clause-ends
returns-clause-ends g c =
    let a = flow (g.S.Source.left c.args.source.now) (g.S.Source.faults c.args.source.now) (g.K.Sink.written c.args.sink.now) (g.K.Sink.faults c.args.sink.now) in
    let b = flow (g.S.Source.left c.read_to_end.new.source) (g.S.Source.faults c.read_to_end.new.source) (g.K.Sink.written c.answer_module.new.sink) (g.K.Sink.faults c.answer_module.new.sink) in
    subst (EndsSo c.args.words.now a b) (sym c.of_answer.ensures) (answered_ends c.args.words.now (of_module c.args.kind c.in-Ok.seed) c.as_slice.result.now a b c.in-Ok.ensures refl
    (record { lost = subst (Loses (g.S.Source.left c.args.source.now) (g.S.Source.left c.read_to_end.new.source)) (sym c.as_slice.ensures.value) c.in-Ok-read_to_end.ensures.all; ended = c.in-Ok-read_to_end.ensures.end; short = rw c.as_slice.ensures.value (subst (λ n. length c.in-Ok-read_to_end.text.items ≤ n) c.standard.ensures.payload c.in-Ok-read_to_end.ensures.within) })
    c.answer_module.result c.answer_module.ensures.answered)
