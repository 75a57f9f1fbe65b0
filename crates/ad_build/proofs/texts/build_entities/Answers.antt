use Rattle.std.proofs.Common.{drop, ◌∙◌, ap}
use Rattle.ad_lex.specs.Lexemes.{lexemes}
use Rattle.ad_grammar.specs.Names.{Words}
use Rattle.ad_grammar.specs.Texts.{in_force}
use Rattle.ad_prefixes.specs.Declarations.{declarations}
use Rattle.ad_terms.specs.Items.{as_entity}
use Rattle.ad_terms.specs.Shapes.{each}
use Rattle.ad_build.proofs.TextLemmas.{entities_of}
use Rattle.ad_build.proofs.texts.build_entities.Goals as goal

pub returns : goal.returns
returns c = λ entities s.
    let words : Words = in_force (declarations c.args.prefixes.now) in
    c.in_ok-found.ensures ∙ ap (each as_entity) c.in_ok-items.ensures ∙ entities_of words entities (lexemes c.args.text.now (drop c.args.from c.args.tokens.now)) s
