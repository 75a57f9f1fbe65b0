use Rattle.std.proofs.Common.{arith}
use Rattle.ad_check.proofs.Checked.{text_whole, text_part, text_err, phrase_within, phrase_token}
use Rattle.ad_check.proofs.texts.check_text.Goals as goal

pub stop_of-requires-in-Err-clause-token : goal.stop_of-requires-in-Err-clause-token
stop_of-requires-in-Err-clause-token c = phrase_within c.args.text.now c.args.tokens.now c.args.items.now 0 c.in-Err.halt (omega arith) c.in-Err.ensures.reads

pub stop_of-requires-in-Err-clause-wide : goal.stop_of-requires-in-Err-clause-wide
stop_of-requires-in-Err-clause-wide c = phrase_token c.args.text.now c.args.tokens.now c.args.items.now 0 c.in-Err.halt (omega arith) c.in-Err.ensures.reads

pub returns-then-to-tokens : goal.returns-then-to-tokens
returns-then-to-tokens c = λ f is. text_whole f c.args.text.now c.args.tokens.now c.args.items.now c.in-Ok.to is c.in-Ok.ensures.reads c.if-to-tokens.true

pub returns-else-to-tokens : goal.returns-else-to-tokens
returns-else-to-tokens c = λ f is. text_part f c.args.text.now c.args.tokens.now c.args.items.now c.in-Ok.to c.stop_of.result is c.in-Ok.ensures.reads c.if-to-tokens.false c.stop_of.ensures.token c.stop_of.ensures.what

pub returns-in-Err : goal.returns-in-Err
returns-in-Err c = λ f is. text_err f c.args.text.now c.args.tokens.now c.args.items.now c.in-Err.halt c.stop_of-in-Err.result is c.in-Err.ensures.reads c.stop_of-in-Err.ensures.token c.stop_of-in-Err.ensures.what
