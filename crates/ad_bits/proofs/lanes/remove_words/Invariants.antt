use Rattle.std.proofs.Common.{◌*◌, bit_and, w64}
use Rattle.std.specs.Int.{bit_not}
use Rattle.ad_bits.proofs.LaneLemmas.{IsChangedBelow}
use Rattle.ad_bits.proofs.lanes.remove_words.Given as goal

abbrev pub invariant-lanes : goal.invariant-lanes
invariant-lanes l = IsChangedBelow (λ here there. bit_and here (bit_not w64 there)) l.initial.words l.words l.other (4 * l.lane)
