use Rattle.ad_reply.proofs.AnswerLemmas.{refuses_on, refuses_front}
use Rattle.ad_reply.proofs.refusal.refuse.Goals as goal

pub returns-in-All-clause-bytes : goal.returns-in-All-clause-bytes
returns-in-All-clause-bytes g c = refuses_on c.args.refusal _ _ _ c.explain.result c.in-All.ensures.bytes c.explain.ensures.bytes

pub returns-in-Failed-clause-bytes : goal.returns-in-Failed-clause-bytes
returns-in-Failed-clause-bytes g c = refuses_front c.args.refusal _ _ c.in-Failed.ensures.bytes
