use Rattle.std.proofs.Common.{◌≡◌, ℕ, ◌+◌, ◌≤◌, ◌<◌, List, length, drop, map, sym, ◌∙◌, ap, arith}
use Rattle.ad_lex.specs.Lexemes.{Lexeme, lexeme, lexemes}
use Rattle.ad_grammar.specs.Names.{Words}
use Rattle.ad_grammar.specs.Texts.{in_force}
use Rattle.ad_prefixes.specs.Declarations.{declarations}
use Rattle.ad_build.specs.Reads.{reads}
use Rattle.ad_build.proofs.TextLemmas.{few_items, of_body, behind_two, length_left, stated_read, ontology_long}
use Rattle.ad_build.proofs.texts.build_axioms.Goals as goal

pub stated-requires : goal.stated-requires
stated-requires c = few_items (in_force (declarations c.args.prefixes.now)) c.args.text.now c.args.tokens.now (c.args.from + 2) c.in_ok-items.items c.in_ok-items.ensures c.requires.few

pub returns : goal.returns
returns c = λ stated s.
    let words : Words = in_force (declarations c.args.prefixes.now) in
    c.in_ok-found.ensures ∙ ap of_body (c.in_ok-items.ensures ∙ ap (reads words) (behind_two c.args.text.now c.args.tokens.now c.args.from))
    ∙ stated_read words stated (lexemes c.args.text.now (drop c.args.from c.args.tokens.now)) s
