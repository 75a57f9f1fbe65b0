use Rattle.std.proofs.Common.{◌≡◌, ◌*◌, ◌&&◌, inl, inr, Bool, true, false, not, refl, arith, get_or, bit_and, w64}
use Rattle.std.specs.Int.{bit_not}
use Rattle.std.proofs.lemmas.Bool.{OnTrue_at, and_parts, and_from, both_ways, cases_Bool, false≢true, not-true, not_from_false}
use Rattle.std.proofs.lemmas.Nat.{and_le_l}
use Rattle.ad_bits.specs.Words.{SomeLane, bit_in}
use Rattle.ad_bits.proofs.Bits.{bit_in_none, bit_in_some, and_not_bit}
use Rattle.ad_bits.proofs.LaneLemmas.{none_all}
use Rattle.ad_bits.proofs.lanes.are_within.Goals as goal

pub returns-then-exceed_at-clause-within : goal.returns-then-exceed_at-clause-within
returns-then-exceed_at-clause-within c =
    let words = c.args.words.now in
    let other = c.args.other.now in
    let some : SomeLane (λ here there. bit_and here (bit_not w64 there)) words other (4 * c.lanes.lane) = OnTrue_at c.if-exceed_at.true c.exceed_at.ensures.some in
    let found = bit_in_some (λ here there. bit_and here (bit_not w64 there)) (λ a b. a && not b) words other some.lane some.set
    (omega (arith, and_le_l (get_or words some.lane 0) (bit_not w64 (get_or other some.lane 0)), (c.type_inv.words some.lane).fits))
    (λ k j within. and_not_bit (get_or words k 0) (get_or other k 0) j (c.type_inv.other k).fits within) in
    let both = and_parts (bit_in words found.0) (not (bit_in other found.0)) found.1 in
    (λ h. absurd (false≢true h), λ within. absurd (both_ways (bit_in other found.0) (not-true _ both.1) (within found.0 both.0)))

pub returns-then-exceed_at-clause-beyond : goal.returns-then-exceed_at-clause-beyond
returns-then-exceed_at-clause-beyond c =
    let words = c.args.words.now in
    let other = c.args.other.now in
    let some : SomeLane (λ here there. bit_and here (bit_not w64 there)) words other (4 * c.lanes.lane) = OnTrue_at c.if-exceed_at.true c.exceed_at.ensures.some in
    let found = bit_in_some (λ here there. bit_and here (bit_not w64 there)) (λ a b. a && not b) words other some.lane some.set
    (omega (arith, and_le_l (get_or words some.lane 0) (bit_not w64 (get_or other some.lane 0)), (c.type_inv.words some.lane).fits))
    (λ k j within. and_not_bit (get_or words k 0) (get_or other k 0) j (c.type_inv.other k).fits within) in
    let both = and_parts (bit_in words found.0) (not (bit_in other found.0)) found.1 in
    (found.0, both.0, not-true (bit_in other found.0) both.1)

-- a bit that is set, and not without the other's being set
member : (a b : Bool) → (a && not b) ≡ false → a ≡ true → b ≡ true
member a b none is =
    elim (cases_Bool b) [
      | inl set ↦ set
      | inr unset ↦ absurd (both_ways (a && not b) none (and_from a (not b) is (not_from_false b unset)))
    ]

pub returns-clause-within : goal.returns-clause-within
returns-clause-within c =
    let words = c.args.words.now in
    let other = c.args.other.now in
    let none = bit_in_none (λ here there. bit_and here (bit_not w64 there)) (λ a b. a && not b) words other
    (none_all (λ here there. bit_and here (bit_not w64 there)) words other (4 * c.lanes.lane) c.lanes.invariant (omega arith) (omega arith) refl)
    (λ k j within. and_not_bit (get_or words k 0) (get_or other k 0) j (c.type_inv.other k).fits within) in
    (λ _ i is. member (bit_in words i) (bit_in other i) (none i) is, λ _. refl)
