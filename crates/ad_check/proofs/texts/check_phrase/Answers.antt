use Rattle.std.proofs.Common.{subst}
use Rattle.ad_lex.specs.Lexemes.{lexemes}
use Rattle.ad_check.specs.Stops.{ChecksFrom, form_of}
use Rattle.ad_check.proofs.Checked.{ok_after, ok_longest, err_none, err_after, err_first, err_what}
use Rattle.ad_check.proofs.texts.check_phrase.Goals as goal

pub returns : goal.returns
returns c =
    let ts = lexemes c.args.text.now c.args.tokens.now in
    let f = form_of c.args.phrase in
    let checks : ChecksFrom f ts c.args.from c.longest.result = subst (λ tokens. ChecksFrom f (lexemes c.args.text.now tokens) c.args.from c.longest.result) c.list.ensures.value (c.longest.ensures f c.kind.ensures) in
    record {
      after = ok_after f ts c.args.from c.longest.result checks;
      longest = ok_longest f ts c.args.from c.longest.result checks;
      none = err_none f ts c.args.from c.longest.result checks;
      stop = err_after f ts c.args.from c.longest.result checks;
      first = err_first f ts c.args.from c.longest.result checks;
      what = err_what f ts c.args.from c.longest.result checks;
    }
