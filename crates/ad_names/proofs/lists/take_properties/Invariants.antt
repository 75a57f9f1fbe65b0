-- What was taken, with what is left to take, is all.
use Rattle.std.proofs.Common.{◌≡◌, drop}
use Rattle.std.specs.List.{fold, flat_map}
use Rattle.ad_locality.specs.Signature.{of_property}
use Rattle.ad_names.proofs.lists.take_properties.Given as goal

abbrev pub invariant-loop-property : goal.invariant-loop-property
invariant-loop-property g l = fold g.C.Collect.after l.into (flat_map of_property (drop l.property-index l.properties)) ≡ fold g.C.Collect.after l.initial.into (flat_map of_property l.properties)
