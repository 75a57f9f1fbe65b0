use Rattle.std.proofs.Common.{◌∙◌, ap, subst, length}
use Rattle.ad_io.specs.Sink.{Puts}
use Rattle.ad_reply.specs.Counted.{Counted, counted_text}
use Rattle.ad_reply.specs.Replies.{counts_body, counts_in}
use Rattle.ad_reply.proofs.AnswerLemmas.{answers_on, answers_front}
use Rattle.ad_reply.proofs.answers.edit_reply.Goals as goal

pub returns-in-All-clause-bytes : goal.returns-in-All-clause-bytes
returns-in-All-clause-bytes g c =
    answers_on c.args.receipt.number c.len.result (counts_body (counts_in c.args.receipt)) _ _ _ c.put.result
    (c.len.ensures ∙ ap (λ (t : Counted). length (counted_text t)) c.of-counts.ensures)
    c.in-All.ensures.bytes
    (subst (λ (t : Counted). Puts (g.K.Sink.written c.put_answer_line.new.sink) (g.K.Sink.written c.put.new.sink) c.put.result (counted_text t)) c.of-counts.ensures c.put.ensures.bytes)

pub returns-in-Failed-clause-bytes : goal.returns-in-Failed-clause-bytes
returns-in-Failed-clause-bytes g c =
    answers_front c.args.receipt.number c.len.result (counts_body (counts_in c.args.receipt)) _ _
    (c.len.ensures ∙ ap (λ (t : Counted). length (counted_text t)) c.of-counts.ensures)
    c.in-Failed.ensures.bytes
