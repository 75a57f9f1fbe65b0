use Rattle.std.proofs.Common.{◌*◌}
use Rattle.ad_bits.proofs.LaneLemmas.{IsChangedBelow}
use Rattle.ad_bits.proofs.lanes.copy_words.Given as goal

abbrev pub invariant-lanes : goal.invariant-lanes
invariant-lanes l = IsChangedBelow (λ _ there. there) l.initial.words l.words l.other (4 * l.lane)
