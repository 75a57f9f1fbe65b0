use Rattle.std.proofs.Common.{◌∙◌, ap, drop}
use Rattle.ad_lex.specs.Lexemes.{lexemes}
use Rattle.ad_grammar.specs.Names.{Words}
use Rattle.ad_grammar.specs.Phrases.{SpellsRange}
use Rattle.ad_grammar.specs.Texts.{in_force}
use Rattle.ad_prefixes.specs.Declarations.{declarations}
use Rattle.ad_terms.specs.Items.{as_range}
use Rattle.ad_terms.specs.Shapes.{one}
use Rattle.ad_build.proofs.Phrases.{ranges_read}
use Rattle.ad_build.proofs.Uniqueness.{alone}
use Rattle.ad_build.proofs.build.build_range.Goals as goal

pub returns : goal.returns
returns c = λ x s.
    let words : Words = in_force (declarations c.args.prefixes.now) in
    c.one.ensures ∙ ap (one as_range) c.in_ok-items.ensures
    ∙ alone words (SpellsRange words) as_range x (ranges_read words x) (lexemes c.args.text.now (drop c.args.from c.args.tokens.now)) s
