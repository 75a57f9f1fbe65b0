use Rattle.std.proofs.Common.{bit_and, ◌&&◌, not, refl, arith, ◌*◌, get_or, w64}
use Rattle.std.specs.Int.{bit_not}
use Rattle.ad_bits.proofs.Bits.{bit_in_changed, and_not_bit}
use Rattle.ad_bits.proofs.LaneLemmas.{changed_all}
use Rattle.ad_bits.proofs.lanes.remove_words.Goals as goal

pub returns : goal.returns
returns c =
    let old = c.args.words.now in
    let other = c.args.other.now in
    bit_in_changed (λ here there. bit_and here (bit_not w64 there)) (λ a b. a && not b) c.lanes.words old other
    (changed_all (λ here there. bit_and here (bit_not w64 there)) old c.lanes.words other (4 * c.lanes.lane) c.lanes.invariant (omega arith) (omega arith) (omega arith) refl)
    (λ k j within. and_not_bit (get_or old k 0) (get_or other k 0) j (c.type_inv.other k).fits within)
