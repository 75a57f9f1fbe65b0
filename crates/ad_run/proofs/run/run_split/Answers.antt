-- The words are those of the parts, and the answer is on the text that was read.
use Rattle.std.proofs.Common.{◌≤◌, length, refl, sym, subst}
use Rattle.ad_io.specs.Flow.{Loses}
use Rattle.ad_session.specs.Flows.{flow}
use Rattle.ad_command.specs.Command.{of_split}
use Rattle.ad_run.specs.Ends.{EndsSo}
use Rattle.ad_run.proofs.EndLemmas.{answered_ends}
use Rattle.ad_run.proofs.run.run_split.Goals as goal

pub returns-clause-ends : goal.returns-clause-ends
returns-clause-ends g c =
    let a = flow (g.S.Source.left c.args.source.now) (g.S.Source.faults c.args.source.now) (g.K.Sink.written c.args.sink.now) (g.K.Sink.faults c.args.sink.now) in
    let b = flow (g.S.Source.left c.read_to_end.new.source) (g.S.Source.faults c.read_to_end.new.source) (g.K.Sink.written c.answer_split.new.sink) (g.K.Sink.faults c.answer_split.new.sink) in
    subst (EndsSo c.args.words.now a b) (sym c.of_answer.ensures) (answered_ends c.args.words.now (of_split c.args.kind) c.as_slice.result.now a b c.requires refl
    (record { lost = subst (Loses (g.S.Source.left c.args.source.now) (g.S.Source.left c.read_to_end.new.source)) (sym c.as_slice.ensures.value) c.in-Ok.ensures.all; ended = c.in-Ok.ensures.end; short = rw c.as_slice.ensures.value (subst (λ n. length c.in-Ok.text.items ≤ n) c.standard.ensures.payload c.in-Ok.ensures.within) })
    c.answer_split.result c.answer_split.ensures.answered)
