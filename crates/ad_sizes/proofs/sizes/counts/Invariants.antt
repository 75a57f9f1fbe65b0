use Rattle.std.proofs.Common.{◌≡◌, take}
use Rattle.ad_sizes.specs.Sizes.{sizes_of}
use Rattle.ad_sizes.proofs.sizes.counts.Given as goal

abbrev pub invariant-loop-slot : goal.invariant-loop-slot
invariant-loop-slot l = l.counts.items ≡ take l.slot (sizes_of l.rows l.kind)
