use Rattle.std.proofs.Common.{◌≡◌, ◌+◌, ◌≤◌, ◌++◌, length}
use Rattle.std.specs.Option.{option_map}
use Rattle.ad_build.specs.Lists.{operations}
use Rattle.ad_build.proofs.texts.operations.Given as goal

abbrev pub invariant-operations : goal.invariant-operations
invariant-operations l = (operations l.initial.items ≡ option_map (λ others. l.batch ++ others) (operations l.items)) × (length l.batch + length l.items ≤ length l.initial.items)

abbrev pub decreases-operations : goal.decreases-operations
decreases-operations l = length l.items
