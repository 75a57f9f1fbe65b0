use Rattle.std.proofs.Common.{◌≡◌, take}
use Rattle.ad_tree.proofs.ranges.+range_copy.Given as goal

abbrev pub invariant-copy_ranges-loop-part : goal.invariant-copy_ranges-loop-part
invariant-copy_ranges-loop-part l = l.copy ≡ take l.part-index l.all
