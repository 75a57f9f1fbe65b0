use Rattle.std.proofs.Common.{◌*◌, bit_or}
use Rattle.ad_bits.proofs.LaneLemmas.{IsChangedBelow}
use Rattle.ad_bits.proofs.lanes.join_words.Given as goal

abbrev pub invariant-lanes : goal.invariant-lanes
invariant-lanes l = IsChangedBelow bit_or l.initial.words l.words l.other (4 * l.lane)
