-- What was taken, with what is left to take, is all.
use Rattle.std.proofs.Common.{◌≡◌, drop, map}
use Rattle.std.specs.List.{fold, flat_map}
use Rattle.ad_locality.specs.Signature.{of_class}
use Rattle.ad_names.proofs.classes.+take_class.Given as goal

abbrev pub invariant-intersection : goal.invariant-intersection
invariant-intersection g l = fold g.C.Collect.after l.into (flat_map (λ x. x) (map of_class (drop l.operand-index l.operand-items))) ≡ fold g.C.Collect.after l.initial.into (of_class l.class)

abbrev pub invariant-union : goal.invariant-union
invariant-union g l = fold g.C.Collect.after l.into (flat_map (λ x. x) (map of_class (drop l.operand-index l.operand-items))) ≡ fold g.C.Collect.after l.initial.into (of_class l.class)
