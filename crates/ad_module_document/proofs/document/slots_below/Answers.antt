use Rattle.std.proofs.Common.{◌<◌, ◌≤◌, arith}
use Rattle.ad_module_document.proofs.SlotLemmas.{slot_below, as_many}
use Rattle.ad_module_document.proofs.document.slots_below.Goals as goal

pub returns-clause-below : goal.returns-clause-below
returns-clause-below g c = λ i slot at.
    let ontology = c.args.ontology.now in
    let reached : ontology.most ≤ g.C.Choice.reach c.args.choice.now = c.requires in
    let below : slot < ontology.most = slot_below ontology c.laws.ensures c.universe-universe.result.now c.universe-universe.ensures.held c.universe-universe.ensures.most i slot at in
    omega arith

pub returns-clause-long : goal.returns-clause-long
returns-clause-long g c = as_many _ c.args.ontology.now.axioms c.args.ontology.now.slots c.laws.ensures.slotted
