use Rattle.std.proofs.Common.{◌≡◌, ℕ, ◌≤◌, List, length, drop, ◌∙◌, ap, arith}
use Rattle.ad_lex.specs.Lexemes.{lexemes}
use Rattle.ad_grammar.specs.Names.{Words}
use Rattle.ad_grammar.specs.Texts.{in_force}
use Rattle.ad_prefixes.specs.Declarations.{declarations}
use Rattle.ad_build.specs.Lists.{operations}
use Rattle.ad_build.proofs.TextLemmas.{few_items, operations_read}
use Rattle.ad_build.proofs.texts.build_operations.Goals as goal

pub operations-requires : goal.operations-requires
operations-requires c = few_items (in_force (declarations c.args.prefixes.now)) c.args.text.now c.args.tokens.now c.args.from c.in_ok-items.items c.in_ok-items.ensures c.requires.few

pub returns : goal.returns
returns c = λ ops s.
    let words : Words = in_force (declarations c.args.prefixes.now) in
    c.in_ok-found.ensures ∙ ap operations c.in_ok-items.ensures ∙ operations_read words ops (lexemes c.args.text.now (drop c.args.from c.args.tokens.now)) s
