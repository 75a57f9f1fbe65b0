-- What was taken, with what is left to take, is all.
use Rattle.std.proofs.Common.{◌≡◌, drop}
use Rattle.std.specs.List.{fold, flat_map}
use Rattle.ad_locality.specs.Signature.{of_class}
use Rattle.ad_names.proofs.classes.take_classes.Given as goal

abbrev pub invariant-loop-class : goal.invariant-loop-class
invariant-loop-class g l = fold g.C.Collect.after l.into (flat_map of_class (drop l.class-index l.classes)) ≡ fold g.C.Collect.after l.initial.into (flat_map of_class l.classes)
