-- What is said goes with the entities of the kinds so far.
use Rattle.std.proofs.Common.{take}
use Rattle.std.specs.List.{list_any}
use Rattle.ad_entity.specs.Entities.{entity}
use Rattle.ad_split.specs.Going.{Tells}
use Rattle.ad_split.specs.Slots.{is_about}
use Rattle.ad_split.proofs.going.about.Given as goal

abbrev pub invariant-loop-kind : goal.invariant-loop-kind
invariant-loop-kind l = Tells l.ontology.symbols (λ closure. list_any (λ kind. is_about l.ontology closure (entity kind l.iri)) (take l.kind-index l.kind-items)) l.going
