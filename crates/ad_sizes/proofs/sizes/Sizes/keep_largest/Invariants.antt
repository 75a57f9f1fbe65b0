-- What is left are the members that are the largest by the places from here on.
use Rattle.std.proofs.Common.{◌≡◌, ◌≤◌, drop, length}
use Rattle.ad_sizes.specs.Places.{number_over}
use Rattle.ad_sizes.specs.Sizes.{AreLargest}
use Rattle.ad_sizes.proofs.sizes.Sizes.keep_largest.Given as goal

abbrev pub invariant-places : goal.invariant-places
invariant-places l = record {
  within : l.place ≤ length l.self-inside.lacking.items;
  size : length l.members ≡ length l.initial.members;
  largest : AreLargest (number_over 0 (drop l.place l.self-inside.lacking.items)) l.initial.members l.members;
}

abbrev pub decreases-places : goal.decreases-places
decreases-places l = l.place
