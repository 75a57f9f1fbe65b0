-- What was taken, with what is left to take, is all.
use Rattle.std.proofs.Common.{◌≡◌, drop}
use Rattle.std.specs.List.{fold, flat_map}
use Rattle.ad_locality.specs.Signature.{of_literal}
use Rattle.ad_names.proofs.lists.take_literals.Given as goal

abbrev pub invariant-loop-literal : goal.invariant-loop-literal
invariant-loop-literal g l = fold g.C.Collect.after l.into (flat_map of_literal (drop l.literal-index l.literals)) ≡ fold g.C.Collect.after l.initial.into (flat_map of_literal l.literals)
