-- The entity of one more kind.
use Rattle.std.proofs.Common.{◌||◌, take, sym, ap, ◌∙◌, subst, arith}
use Rattle.std.specs.List.{list_any}
use Rattle.std.proofs.lemmas.List.{take_all}
use Rattle.ad_entity.specs.Entities.{all_kinds, entity}
use Rattle.ad_split.specs.Going.{Tells}
use Rattle.ad_split.specs.Slots.{is_about, is_number_in}
use Rattle.ad_split.proofs.GoingLemmas.{any_more, number_below, tells_same}
use Rattle.ad_split.proofs.going.about.Goals as goal

pub loop-kind-preserved : goal.loop-kind-preserved
loop-kind-preserved c =
    let ontology = c.args.ontology.now in
    let i = c.loop-kind.kind-index in
    let below = number_below ontology.symbols c.number.result (λ n at. c.laws.ensures.below _ n (sym c.number.ensures ∙ at)) in
    tells_same ontology.symbols _ _ c.or_with-going.result
    (λ closure.
    ap (λ o. list_any (λ kind. is_about ontology closure (entity kind c.args.iri.now)) (take i all_kinds) || is_number_in closure o) c.number.ensures
    ∙ any_more (λ kind. is_about ontology closure (entity kind c.args.iri.now)) all_kinds i _ (omega arith))
    (c.or_with-going.ensures ontology.symbols _ below c.loop-kind.invariant)

pub returns : goal.returns
returns c =
    let ontology = c.args.ontology.now in
    subst (λ kinds. Tells ontology.symbols (λ closure. list_any (λ kind. is_about ontology closure (entity kind c.args.iri.now)) kinds) c.loop-kind.going)
    (take_all c.loop-kind.kind-index all_kinds (omega arith)) c.loop-kind.invariant
