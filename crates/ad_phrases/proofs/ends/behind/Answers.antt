use Rattle.std.proofs.Common.{drop, sym, subst}
use Rattle.ad_lex.specs.Lexemes.{lexemes}
use Rattle.ad_check.specs.Stops.{form_of}
use Rattle.ad_phrases.specs.Phrases.{HasPhrase}
use Rattle.ad_phrases.proofs.ends.behind.Goals as goal

pub unreachable-requires : goal.unreachable-requires
unreachable-requires g c =
    let phrase = subst (λ p. HasPhrase (form_of p) (drop c.args.from (lexemes c.args.text.now c.args.tokens.now))) (sym c.PHRASE.ensures) c.requires.phrase in
    c.in-Err.ensures.none phrase.0 phrase.1
