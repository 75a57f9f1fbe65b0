use Rattle.ad_reply.proofs.FoundLemmas.{genuine_is}
use Rattle.ad_reply.proofs.answers.genuine_reply.Goals as goal

pub returns-clause-reply : goal.returns-clause-reply
returns-clause-reply g c = genuine_is c.args.kind c.args.edition.now.shown c.args.seed.now c.args.noted.now _ _ c.module_reply.result c.requires.members c.module_reply.ensures.reply
