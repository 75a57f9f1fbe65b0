use Rattle.ad_module_document.proofs.SlotLemmas.{slot_below, as_many}
use Rattle.ad_split.proofs.room.slots_fit.Goals as goal

pub returns-clause-below : goal.returns-clause-below
returns-clause-below c = slot_below c.args.ontology.now c.laws.ensures c.universe-universe.result.now c.universe-universe.ensures.held c.universe-universe.ensures.most

pub returns-clause-long : goal.returns-clause-long
returns-clause-long c = as_many _ c.args.ontology.now.axioms c.args.ontology.now.slots c.laws.ensures.slotted
