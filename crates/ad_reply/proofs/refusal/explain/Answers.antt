use Rattle.ad_reply.specs.Replies.{refused}
use Rattle.ad_reply.proofs.AnswerLemmas.{explains_on, explains_front}
use Rattle.ad_reply.proofs.refusal.explain.Goals as goal

pub returns-in-All-clause-bytes : goal.returns-in-All-clause-bytes
returns-in-All-clause-bytes g c = explains_on (refused c.args.refusal) c.cause.result _ _ _ _ _ c.cause.ensures c.number.ensures c.in-All.ensures.bytes c.put_details.ensures.bytes

pub returns-in-Failed-clause-bytes : goal.returns-in-Failed-clause-bytes
returns-in-Failed-clause-bytes g c = explains_front (refused c.args.refusal) c.cause.result _ _ _ c.cause.ensures c.number.ensures c.in-Failed.ensures.bytes
