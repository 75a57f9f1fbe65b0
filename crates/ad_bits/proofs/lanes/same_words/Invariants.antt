use Rattle.std.proofs.Common.{◌*◌, bit_xor}
use Rattle.ad_bits.proofs.LaneLemmas.{NoneBelow}
use Rattle.ad_bits.proofs.lanes.same_words.Given as goal

abbrev pub invariant-lanes : goal.invariant-lanes
invariant-lanes l = NoneBelow bit_xor l.words l.other (4 * l.lane)
