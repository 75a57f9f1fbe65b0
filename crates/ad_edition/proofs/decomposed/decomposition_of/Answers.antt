-- The slots in order are the live ones.
use Rattle.std.proofs.Common.{◌∙◌}
use Rattle.ad_edition.proofs.SlotLemmas.{order_is_live_in}
use Rattle.ad_edition.proofs.decomposed.decomposition_of.Goals as goal

pub of-requires-clause-live : goal.of-requires-clause-live
of-requires-clause-live g c = λ κs lives.
    order_is_live_in c.args.ontology.now c.laws.ensures c.as_slice.result.now _ (c.as_slice.ensures.value ∙ c.in_ok-order.ensures) c.universe.ensures.held
