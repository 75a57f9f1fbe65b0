use Rattle.std.proofs.Common.{◌*◌, ◌&&◌, refl, arith, get_or, bit_and}
use Rattle.std.proofs.lemmas.Bool.{OnTrue_at, and_parts, and_from, both_ways, false≢true}
use Rattle.std.proofs.lemmas.Nat.{and_le_l}
use Rattle.ad_bits.specs.Words.{SomeLane, bit_in}
use Rattle.ad_bits.proofs.Bits.{bit_in_none, bit_in_some, and_bit}
use Rattle.ad_bits.proofs.LaneLemmas.{none_all}
use Rattle.ad_bits.proofs.lanes.share_bit.Goals as goal

pub returns-then-meet_at : goal.returns-then-meet_at
returns-then-meet_at c =
    let words = c.args.words.now in
    let other = c.args.other.now in
    let some : SomeLane bit_and words other (4 * c.lanes.lane) = OnTrue_at c.if-meet_at.true c.meet_at.ensures.some in
    let found = bit_in_some bit_and ◌&&◌ words other some.lane some.set
    (omega (arith, and_le_l (get_or words some.lane 0) (get_or other some.lane 0), (c.type_inv.words some.lane).fits))
    (λ k j within. and_bit (get_or words k 0) (get_or other k 0) j) in
    let both = and_parts (bit_in words found.0) (bit_in other found.0) found.1 in
    (λ _. (found.0, both.0, both.1), λ _. refl)

pub returns : goal.returns
returns c =
    let words = c.args.words.now in
    let other = c.args.other.now in
    let none = bit_in_none bit_and ◌&&◌ words other
    (none_all bit_and words other (4 * c.lanes.lane) c.lanes.invariant (omega arith) (omega arith) refl)
    (λ k j within. and_bit (get_or words k 0) (get_or other k 0) j) in
    (λ h. absurd (false≢true h), λ (i, here, there). absurd (both_ways (bit_in words i && bit_in other i) (none i) (and_from (bit_in words i) (bit_in other i) here there)))
