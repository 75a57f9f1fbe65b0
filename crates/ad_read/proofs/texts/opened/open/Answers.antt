use Rattle.std.proofs.Common.{sym, subst}
use Rattle.ad_lex.specs.Spans.{AreTokensOf}
use Rattle.ad_prefixes.specs.Phrased.{IsTwiceAt}
use Rattle.ad_read.proofs.Opening.{weaker_ok, weaker_err, unknown_refused, twice_refused, twice_of}
use Rattle.ad_read.proofs.texts.opened.open.Goals as goal

pub returns-in-Ok-clause-place : goal.returns-in-Ok-clause-place
returns-in-Ok-clause-place c = weaker_ok c.known.result _ _ (λ opened same. subst (AreTokensOf c.args.text.now) (sym same.0) c.in_ok-tokens.ensures.place) c.known.ensures.same

pub returns-in-Ok-clause-refused : goal.returns-in-Ok-clause-refused
returns-in-Ok-clause-refused c = weaker_err c.known.result _ _ (λ refused h. unknown_refused c.args.whole c.args.limits.now.depth c.args.text.now c.in_ok-tokens.tokens c.list.result.now c.in_ok-tokens.ensures.formed c.in-Ok.prefixes c.in-Ok.behind c.list.ensures.value c.in-Ok.ensures.within c.in-Ok.ensures.declared c.in-Ok.ensures.behind c.in-Ok.ensures.distinct refused h) c.known.ensures.refused

pub returns-in-Err-Twice-clause-refused : goal.returns-in-Err-Twice-clause-refused
returns-in-Err-Twice-clause-refused c = twice_refused c.args.whole c.args.limits.now.depth c.args.text.now c.in_ok-tokens.tokens c.list.result.now c.in_ok-tokens.ensures.formed c.in-Err-Twice.at c.list.ensures.value (twice_of c.read_prefixes.result c.in-Err-Twice.field-0 c.in-Err-Twice.at (λ place. IsTwiceAt c.args.text.now c.list.result.now place) c.in-Err-Twice.is c.in-Err-Twice.field-0-is c.read_prefixes.ensures.twice)
