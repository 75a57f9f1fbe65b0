use Rattle.std.proofs.Common.{false, ◌∙◌, ap, drop}
use Rattle.ad_lex.specs.Lexemes.{lexemes}
use Rattle.ad_grammar.specs.Names.{Words}
use Rattle.ad_grammar.specs.Axioms.{SpellsNoted}
use Rattle.ad_grammar.specs.Texts.{in_force}
use Rattle.ad_prefixes.specs.Declarations.{declarations}
use Rattle.ad_terms.specs.Items.{as_axiom}
use Rattle.ad_terms.specs.Shapes.{one}
use Rattle.ad_build.proofs.Uniqueness.{alone, noteds_read}
use Rattle.ad_build.proofs.build.build_axiom.Goals as goal

pub returns : goal.returns
returns c = λ x s.
    let words : Words = in_force (declarations c.args.prefixes.now) in
    c.one.ensures ∙ ap (one as_axiom) c.in_ok-items.ensures
    ∙ alone words (SpellsNoted false words) as_axiom x (noteds_read words x) (lexemes c.args.text.now (drop c.args.from c.args.tokens.now)) s
