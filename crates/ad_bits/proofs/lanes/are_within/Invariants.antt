use Rattle.std.proofs.Common.{◌*◌, bit_and, w64}
use Rattle.std.specs.Int.{bit_not}
use Rattle.ad_bits.proofs.LaneLemmas.{NoneBelow}
use Rattle.ad_bits.proofs.lanes.are_within.Given as goal

abbrev pub invariant-lanes : goal.invariant-lanes
invariant-lanes l = NoneBelow (λ here there. bit_and here (bit_not w64 there)) l.words l.other (4 * l.lane)
