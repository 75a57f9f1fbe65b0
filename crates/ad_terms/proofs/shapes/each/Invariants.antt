use Rattle.std.proofs.Common.{◌≡◌, ◌++◌, length}
use Rattle.std.specs.Option.{option_map}
use Rattle.ad_terms.specs.Shapes.{each}
use Rattle.ad_terms.proofs.shapes.each.Given as goal

abbrev pub invariant-arguments : goal.invariant-arguments
invariant-arguments g l = each g.A.ReadsAs.as_item l.initial.arguments ≡ option_map (λ others. l.all ++ others) (each g.A.ReadsAs.as_item l.arguments)

abbrev pub decreases-arguments : goal.decreases-arguments
decreases-arguments g l = length l.arguments
