use Rattle.ad_read.specs.Opened.{form_of}
use Rattle.ad_read.proofs.Opening.{refusal_is}
use Rattle.ad_read.proofs.texts.opened.formed.Goals as goal

pub returns-in-Err-clause-refused : goal.returns-in-Err-clause-refused
returns-in-Err-clause-refused c = refusal_is (form_of c.args.whole) c.args.limits.now.depth c.args.text.now c.in_ok-tokens.tokens c.list.result.now c.in-Err.stop c.refusal.result c.in_ok-tokens.ensures.shallow c.in-Err.ensures.first c.in-Err.ensures.what c.list.ensures.value c.refusal.ensures
