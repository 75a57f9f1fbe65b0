use Rattle.std.proofs.Common.{◌∷◌, [], false, sym}
use Rattle.ad_lex.specs.Lexemes.{lexeme, lexemes}
use Rattle.ad_check.specs.Machine.{halt}
use Rattle.ad_check.specs.Reads.{Halts}
use Rattle.ad_check.specs.declared.items.Symbol.TheVariants as it
use Rattle.ad_check.proofs.Single.{sign_read, end_right, end_stops}
use Rattle.ad_check.proofs.check.check_end.Goals as goal

pub returns-then-is_sign : goal.returns-then-is_sign
returns-then-is_sign c = record { reads = sign_read (lexemes c.args.text.now c.args.tokens.now) c.args.from (lexeme c.args.text.now c.in-Some.token) it.End c.in-Some.ensures.1 (end_right false (lexeme c.args.text.now c.in-Some.token) (c.if-is_sign.ensures false)) }

pub returns-else-is_name : goal.returns-else-is_name
returns-else-is_name c =
    let ts = lexemes c.args.text.now c.args.tokens.now in
    let t = lexeme c.args.text.now c.in-Some.token in
    let stops : Halts ts (it.End ∷ []) c.args.from (halt c.args.from _) = end_stops ts c.args.from t c.row.result c.in-Some.ensures.1 (c.if-is_sign.ensures false) (sym c.if-is_name.ensures) c.row.ensures in
    record { reads = rw c.is_some-wide.ensures stops }
