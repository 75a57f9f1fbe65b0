-- What was taken, with what is left to take, is all.
use Rattle.std.proofs.Common.{◌≡◌, drop}
use Rattle.std.specs.List.{fold, flat_map}
use Rattle.ad_locality.specs.Signature.{named}
use Rattle.ad_names.proofs.lists.take_entities.Given as goal

abbrev pub invariant-loop-entity : goal.invariant-loop-entity
invariant-loop-entity g l = fold g.C.Collect.after l.into (flat_map (λ e. named e.kind e.name) (drop l.entity-index l.entities)) ≡ fold g.C.Collect.after l.initial.into (flat_map (λ e. named e.kind e.name) l.entities)
