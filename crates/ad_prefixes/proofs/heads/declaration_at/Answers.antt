use Rattle.std.proofs.Common.{◌≡◌, ℕ, ◌+◌, ◌≤◌, ◌<◌, length, drop, slice_get, get_or, Some, arith, length-drop}
use Rattle.ad_lex.specs.declared.token.Token.{Token}
use Rattle.ad_lex.specs.declared.token.Mark.TheVariants as mark
use Rattle.ad_lex.specs.Lexemes.{lexeme}
use Rattle.ad_prefixes.specs.Declarations.{declared}
use Rattle.ad_prefixes.proofs.HeadLemmas.{few_none, six_at, third}
use Rattle.ad_prefixes.proofs.heads.declaration_at.Goals as goal

pub returns-then-tokens-at-lt6 : goal.returns-then-tokens-at-lt6
returns-then-tokens-at-lt6 c = few_none (lexeme c.args.text.now) (drop c.args.at c.args.tokens.now) (simp length-drop (omega arith))

pub returns-in-Some : goal.returns-in-Some
returns-in-Some c =
    let z : Token = record { from = 0; to = 0; mark = mark.Left } in
    let long : c.args.at + 6 ≤ length c.args.tokens.now = omega arith in
    record {
      within = long;
      third = third c.args.tokens.now (c.args.at + 2) z (omega arith);
      goes = six_at (lexeme c.args.text.now) c.args.tokens.now c.args.at z (Some (declared (c.in-Some.prefix.now, c.in-Some.iri.now))) long c.in-Some.ensures;
    }
