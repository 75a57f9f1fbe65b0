use Rattle.std.proofs.Common.{refl, subst}
use Rattle.ad_lex.specs.Lexemes.{lexemes}
use Rattle.ad_grammar.specs.Faults as form
use Rattle.ad_check.specs.Stops.{Checks}
use Rattle.ad_check.proofs.Checked.{text_ok, text_first, text_what}
use Rattle.ad_check.proofs.texts.check_seed.Goals as goal

pub returns : goal.returns
returns c =
    let ts = lexemes c.args.text.now c.args.tokens.now in
    let checks : Checks form.seed ts c.check_text.result = subst (λ tokens. Checks form.seed (lexemes c.args.text.now tokens) c.check_text.result) c.list.ensures.value (c.check_text.ensures form.seed refl) in
    record {
      ok = text_ok form.seed ts c.check_text.result checks;
      first = text_first form.seed ts c.check_text.result checks;
      what = text_what form.seed ts c.check_text.result checks;
    }
