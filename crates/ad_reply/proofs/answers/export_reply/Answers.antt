use Rattle.std.proofs.Common.{subst}
use Rattle.ad_io.specs.Flow.{Gains, GainsFront}
use Rattle.ad_io.specs.Sink.{Puts}
use Rattle.ad_write.specs.Canonical.{canon_document}
use Rattle.ad_reply.specs.Replies.{answer_line}
use Rattle.ad_reply.proofs.AnswerLemmas.{answers_on, answers_front}
use Rattle.ad_reply.proofs.answers.export_reply.Goals as goal

pub returns-in-All-clause-bytes : goal.returns-in-All-clause-bytes
returns-in-All-clause-bytes g c =
    answers_on c.args.edition.now.shown.number c.bytes.result (canon_document c.args.edition.now.shown.axioms) _ _ _ c.write_document.result c.bytes.ensures
    (subst (λ n. Gains (g.K.Sink.written c.args.sink.now) (g.K.Sink.written c.put_answer_line.new.sink) (answer_line n c.bytes.result)) c.number.ensures c.in-All.ensures.bytes)
    (subst (λ axioms. Puts (g.K.Sink.written c.put_answer_line.new.sink) (g.K.Sink.written c.write_document.new.sink) c.write_document.result (canon_document axioms)) c.axioms.ensures.axioms c.write_document.ensures.bytes)

pub returns-in-Failed-clause-bytes : goal.returns-in-Failed-clause-bytes
returns-in-Failed-clause-bytes g c =
    answers_front c.args.edition.now.shown.number c.bytes.result (canon_document c.args.edition.now.shown.axioms) _ _ c.bytes.ensures
    (subst (λ n. GainsFront (g.K.Sink.written c.args.sink.now) (g.K.Sink.written c.put_answer_line.new.sink) (answer_line n c.bytes.result)) c.number.ensures c.in-Failed.ensures.bytes)
