use Rattle.std.proofs.Common.{◌*◌, []}
use Rattle.ad_bits.proofs.LaneLemmas.{IsChangedBelow}
use Rattle.ad_bits.proofs.lanes.clear_words.Given as goal

abbrev pub invariant-lanes : goal.invariant-lanes
invariant-lanes l = IsChangedBelow (λ _ _. 0) l.initial.words l.words [] (4 * l.lane)
