-- What was entered and placed makes a numbered ontology.
use Rattle.std.proofs.Common.{subst}
use Rattle.ad_syntax_laws.specs.OntologyModule.{logical, values}
use Rattle.ad_signature.specs.Numbering.{number_in}
use Rattle.ad_flat.specs.Universes.{held_in}
use Rattle.ad_numbered.specs.Making.{AreEntered, AreInOrder}
use Rattle.ad_numbered.specs.Numbered.{signatures}
use Rattle.ad_numbered.proofs.NumberedLemmas.{numbered}
use Rattle.ad_numbered.proofs.ontology.NumberedOntology.of.Goals as goal

pub invariant_of-result : goal.invariant_of-result
invariant_of-result c =
    let parts = c.in-Ok.parts in
    let entered = subst (λ arcs. AreEntered (signatures (logical (values arcs))) parts.names.names) c.as_slice.ensures.value c.in-Ok.ensures.entered in
    let order = subst (λ arcs. AreInOrder (number_in parts.names.names) (values arcs) parts.slots.items (held_in parts.universe)) c.as_slice.ensures.value c.in-Ok.ensures.placed in
    numbered (values c.args.axioms.items) parts.slots.items parts.names parts.universe entered order c.args.limits.now c.requires.standard
    c.in-Ok.ensures.limit c.in-Ok.ensures.symbols c.in-Ok.ensures.most c.requires.few
