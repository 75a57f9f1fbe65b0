use Rattle.std.proofs.Common.{List, sym, ◌∙◌, subst}
use Rattle.std.proofs.lemmas.Result.{err_from_is_err_and}
use Rattle.ad_lex.specs.Spans.{AreTokensOf}
use Rattle.ad_entity.specs.declared.entities.Entity.{Entity}
use Rattle.ad_read.specs.Texts.{IsSeed}
use Rattle.ad_grammar.specs.Texts.{SpellsSeed}
use Rattle.ad_read.specs.declared.texts.whole.Whole.TheVariants.{Seed}
use Rattle.ad_read.proofs.Opening.{some_same, none_not_some, seed_found}
use Rattle.ad_read.proofs.Outcomes.{seeds, text_once, text_refused}
use Rattle.ad_read.proofs.texts.read_seed.Goals as goal

pub returns-in_err-opened-clause-complete : goal.returns-in_err-opened-clause-complete
returns-in_err-opened-clause-complete c = λ x h.
    let p = err_from_is_err_and c.from_residual.result c.from_residual.ensures.1 in
    rw (p.1, p.2) (text_refused Seed (List Entity) SpellsSeed seeds c.args.limits.now.depth c.args.text.now x h c.in_err-opened.field-0.0 c.in_err-opened.ensures.refused)

pub build_entities-requires-clause-place : goal.build_entities-requires-clause-place
build_entities-requires-clause-place c = subst (AreTokensOf c.args.text.now) (sym c.list.ensures.value) c.in_ok-opened.ensures.place

pub unreachable-requires : goal.unreachable-requires
unreachable-requires c =
    let f = seed_found c.args.limits.now.depth c.args.text.now c.in_ok-opened.opened.tokens c.list.result.now c.in_ok-opened.opened.prefixes c.in_ok-opened.opened.behind c.list.ensures.value c.in_ok-opened.ensures.opened c.in_ok-found.found c.in_ok-found.ensures in
    none_not_some f.0 (sym c.in-None.is ∙ f.1)

pub returns-clause-read : goal.returns-clause-read
returns-clause-read c =
    let f = seed_found c.args.limits.now.depth c.args.text.now c.in_ok-opened.opened.tokens c.list.result.now c.in_ok-opened.opened.prefixes c.in_ok-opened.opened.behind c.list.ensures.value c.in_ok-opened.ensures.opened c.in_ok-found.found c.in_ok-found.ensures in
    subst (IsSeed c.args.limits.now.depth c.args.text.now) (some_same f.0 c.in-Some.seed (sym f.1 ∙ c.in-Some.is)) f.2

pub returns-clause-complete : goal.returns-clause-complete
returns-clause-complete c = λ x h. text_once Seed (List Entity) SpellsSeed seeds c.args.limits.now.depth c.args.text.now c.in-Some.seed x (returns-clause-read c) h
