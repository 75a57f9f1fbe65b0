use Rattle.ad_run.proofs.NoteLemmas.{refused_on, refused_front}
use Rattle.ad_run.proofs.status.tell_refusal.Goals as goal

pub returns-in-All-clause-bytes : goal.returns-in-All-clause-bytes
returns-in-All-clause-bytes g c = refused_on c.args.refusal _ _ _ c.explain.result c.in-All.ensures.bytes c.explain.ensures.bytes

pub returns-in-Failed-clause-bytes : goal.returns-in-Failed-clause-bytes
returns-in-Failed-clause-bytes g c = refused_front c.args.refusal _ _ c.in-Failed.ensures.bytes
