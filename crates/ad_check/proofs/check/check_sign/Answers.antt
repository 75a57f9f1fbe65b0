use Rattle.std.proofs.Common.{false}
use Rattle.ad_lex.specs.Lexemes.{lexeme, lexemes}
use Rattle.ad_check.proofs.Single.{sign_read}
use Rattle.ad_check.proofs.check.check_sign.Goals as goal

pub returns-then-is_sign : goal.returns-then-is_sign
returns-then-is_sign c = record { reads = sign_read (lexemes c.args.text.now c.args.tokens.now) c.args.from (lexeme c.args.text.now c.in-Some.token) c.args.item c.in-Some.ensures.1 (c.if-is_sign.ensures false) }
