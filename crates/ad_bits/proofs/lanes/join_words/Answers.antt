use Rattle.std.proofs.Common.{bit_or, ◌||◌, refl, arith, ◌*◌, get_or}
use Rattle.ad_bits.proofs.Bits.{bit_in_changed, or_bit}
use Rattle.ad_bits.proofs.LaneLemmas.{changed_all}
use Rattle.ad_bits.proofs.lanes.join_words.Goals as goal

pub returns : goal.returns
returns c =
    let old = c.args.words.now in
    let other = c.args.other.now in
    bit_in_changed bit_or ◌||◌ c.lanes.words old other
    (changed_all bit_or old c.lanes.words other (4 * c.lanes.lane) c.lanes.invariant (omega arith) (omega arith) (omega arith) refl)
    (λ k j within. or_bit (get_or old k 0) (get_or other k 0) j)
