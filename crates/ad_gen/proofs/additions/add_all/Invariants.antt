use Rattle.std.proofs.Common.{◌≡◌, ◌++◌, map}
use Rattle.ad_gen.specs.Generated.{added, axioms_of_classes}
use Rattle.ad_gen.proofs.additions.add_all.Given as goal

abbrev pub invariant-loop-before : goal.invariant-loop-before
invariant-loop-before l = l.batch ≡ l.initial.batch ++ map added (axioms_of_classes l.before)
