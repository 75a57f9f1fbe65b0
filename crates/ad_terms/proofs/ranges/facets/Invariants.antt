use Rattle.std.proofs.Common.{◌≡◌, ◌++◌, length}
use Rattle.std.specs.Option.{option_map}
use Rattle.ad_terms.specs.Built.{facets}
use Rattle.ad_terms.proofs.ranges.facets.Given as goal

abbrev pub invariant-facets : goal.invariant-facets
invariant-facets l = facets l.initial.arguments ≡ option_map (λ others. l.all ++ others) (facets l.arguments)

abbrev pub decreases-facets : goal.decreases-facets
decreases-facets l = length l.arguments
