use Rattle.std.proofs.Common.{◌≡◌, ◌+◌, ◌≤◌, ◌++◌, length}
use Rattle.std.specs.Option.{option_map}
use Rattle.ad_build.specs.Lists.{additions}
use Rattle.ad_build.proofs.texts.additions.Given as goal

abbrev pub invariant-additions : goal.invariant-additions
invariant-additions l = (additions l.initial.items ≡ option_map (λ others. l.batch ++ others) (additions l.items)) × (length l.batch + length l.items ≤ length l.initial.items)

abbrev pub decreases-additions : goal.decreases-additions
decreases-additions l = length l.items
