use Rattle.std.proofs.Common.{◌*◌, bit_and}
use Rattle.ad_bits.proofs.LaneLemmas.{NoneBelow}
use Rattle.ad_bits.proofs.lanes.share_bit.Given as goal

abbrev pub invariant-lanes : goal.invariant-lanes
invariant-lanes l = NoneBelow bit_and l.words l.other (4 * l.lane)
