use Rattle.std.proofs.Common.{take, sym, ◌∙◌, ap, subst}
use Rattle.std.specs.Prelude.{Ok}
use Rattle.std.proofs.lemmas.List.Elements.{All-take}
use Rattle.std.proofs.lemmas.Result.{err_from_is_err_and}
use Rattle.ad_lex.specs.Lexemes.{lexemes}
use Rattle.ad_lex.specs.Spans.{AreTokensOf, IsTokenOf}
use Rattle.ad_grammar.specs.Texts.{in_force}
use Rattle.ad_check.specs.Stops.{form_of}
use Rattle.ad_prefixes.specs.Declarations.{declarations}
use Rattle.ad_phrases.specs.Phrases.{IsBuilt}
use Rattle.ad_phrases.proofs.Once.{all_built, all_refused}
use Rattle.ad_phrases.proofs.Trees.{tree_found, name_found, none_not_some, some_same}
use Rattle.ad_phrases.proofs.phrases.build.Goals as goal

pub returns-in_err-known-clause-refused : goal.returns-in_err-known-clause-refused
returns-in_err-known-clause-refused g c =
    let p = err_from_is_err_and c.from_residual.result c.from_residual.ensures.1 in
    rw (p.1, p.2) (name_found c.args.text.now c.args.tokens.now c.args.from c.behind-to.result c.behind-to.ensures.after (in_force (declarations c.args.prefixes.now)) c.behind-to.ensures.longest c.list.result.now c.list.ensures.value c.in_err-known.field-0.0 c.in_err-known.ensures.unknown)

pub returns-in_err-known-clause-complete : goal.returns-in_err-known-clause-complete
returns-in_err-known-clause-complete g c =
    let p = err_from_is_err_and c.from_residual.result c.from_residual.ensures.1 in
    all_built g.met.T.PhraseTree.reading (in_force (declarations c.args.prefixes.now)) c.args.text.now c.args.tokens.now c.args.from c.from_residual.result (rw p.1 tt) (returns-in_err-known-clause-refused g c)

pub returns-in_err-known-clause-first : goal.returns-in_err-known-clause-first
returns-in_err-known-clause-first g c =
    let p = err_from_is_err_and c.from_residual.result c.from_residual.ensures.1 in
    all_refused g.met.T.PhraseTree.reading (in_force (declarations c.args.prefixes.now)) c.args.text.now c.args.tokens.now c.args.from c.from_residual.result (rw p.1 tt) (returns-in_err-known-clause-refused g c)

pub build-requires-clause-place : goal.build-requires-clause-place
build-requires-clause-place g c = subst (AreTokensOf c.args.text.now) (ap (take c.behind-to.result) (sym c.list.ensures.value)) (All-take (IsTokenOf c.args.text.now) c.behind-to.result c.args.tokens.now c.requires.tokens)

pub unreachable-requires : goal.unreachable-requires
unreachable-requires g c =
    let f = tree_found c.args.text.now c.args.tokens.now c.args.from c.behind-to.result c.behind-to.ensures.after (in_force (declarations c.args.prefixes.now)) c.behind-to.ensures.longest c.list.result.now c.list.ensures.value g.met.T.PhraseTree.reading c.in_ok-known.ensures.known c.in_ok-tree.field-0 c.in_ok-tree.ensures in
    none_not_some f.0 (sym c.in-None.is ∙ f.1)

pub returns-clause-built : goal.returns-clause-built
returns-clause-built g c =
    let f = tree_found c.args.text.now c.args.tokens.now c.args.from c.behind-to.result c.behind-to.ensures.after (in_force (declarations c.args.prefixes.now)) c.behind-to.ensures.longest c.list.result.now c.list.ensures.value g.met.T.PhraseTree.reading c.in_ok-known.ensures.known c.in_ok-tree.field-0 c.in_ok-tree.ensures in
    subst (λ x. IsBuilt (form_of g.T.PhraseTree.PHRASE) (g.T.PhraseTree.spells (in_force (declarations c.args.prefixes.now))) (lexemes c.args.text.now c.args.tokens.now) c.args.from x c.behind-to.result) (some_same f.0 c.in-Some.tree (sym f.1 ∙ c.in-Some.is)) f.2

pub returns-clause-complete : goal.returns-clause-complete
returns-clause-complete g c = all_built g.met.T.PhraseTree.reading (in_force (declarations c.args.prefixes.now)) c.args.text.now c.args.tokens.now c.args.from (Ok (c.in-Some.tree, c.behind-to.result)) (returns-clause-built g c) tt

pub returns-clause-first : goal.returns-clause-first
returns-clause-first g c = all_refused g.met.T.PhraseTree.reading (in_force (declarations c.args.prefixes.now)) c.args.text.now c.args.tokens.now c.args.from (Ok (c.in-Some.tree, c.behind-to.result)) (returns-clause-built g c) tt
