use Rattle.std.proofs.Common.{◌∙◌, ap, drop}
use Rattle.ad_lex.specs.Lexemes.{lexemes}
use Rattle.ad_grammar.specs.Names.{Words}
use Rattle.ad_grammar.specs.Names.{SpellsProperty}
use Rattle.ad_grammar.specs.Texts.{in_force}
use Rattle.ad_prefixes.specs.Declarations.{declarations}
use Rattle.ad_terms.specs.Items.{as_property}
use Rattle.ad_terms.specs.Shapes.{one}
use Rattle.ad_build.proofs.Phrases.{properties_read}
use Rattle.ad_build.proofs.Uniqueness.{alone}
use Rattle.ad_build.proofs.build.build_objprop.Goals as goal

pub returns : goal.returns
returns c = λ x s.
    let words : Words = in_force (declarations c.args.prefixes.now) in
    c.one.ensures ∙ ap (one as_property) c.in_ok-items.ensures
    ∙ alone words (SpellsProperty words) as_property x (properties_read words x) (lexemes c.args.text.now (drop c.args.from c.args.tokens.now)) s
