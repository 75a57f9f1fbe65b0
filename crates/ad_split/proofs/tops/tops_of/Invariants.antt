-- The tops so far.
use Rattle.std.proofs.Common.{◌≡◌}
use Rattle.std.specs.List.{filter, range_with_len}
use Rattle.ad_bits.specs.Rows.{has}
use Rattle.ad_split.proofs.tops.tops_of.Given as goal

abbrev pub invariant-loop-atom : goal.invariant-loop-atom
invariant-loop-atom l = l.parts.items ≡ filter (has l.covers.tops) (range_with_len 0 l.atom)
