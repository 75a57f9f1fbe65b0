use Rattle.std.proofs.Common.{◌≡◌, ℕ, List, refl, arith, get_or, ap, ◌*◌, ◌∙◌, bit_xor}
use Rattle.std.proofs.lemmas.Bool.{OnTrue_at, false≢true}
use Rattle.std.proofs.lemmas.Grind.{same_number_lists}
use Rattle.std.specs.Int.Bits.{xor_self}
use Rattle.ad_bits.specs.Words.{bit_in, SomeLane}
use Rattle.ad_bits.proofs.Bits.{same_word}
use Rattle.ad_bits.proofs.LaneLemmas.{same_from_xor}
use Rattle.ad_bits.proofs.lanes.same_words.Goals as goal

pub returns-then-differ_at : goal.returns-then-differ_at
returns-then-differ_at c =
    let words = c.args.words.now in
    let other = c.args.other.now in
    let some : SomeLane bit_xor words other (4 * c.lanes.lane) = OnTrue_at c.if-differ_at.true c.differ_at.ensures.some in
    let k : ℕ = some.lane in (
      λ h. absurd (false≢true h),
      λ same. absurd (some.set (ap (λ w. bit_xor w (get_or other k 0)) (same_word words other k (c.type_inv.words k).fits (c.type_inv.other k).fits same) ∙ xor_self (get_or other k 0))),
    )

pub returns : goal.returns
returns c =
    let words = c.args.words.now in
    let other = c.args.other.now in
    let same : words ≡ other = same_number_lists words other c.requires.same_length (λ k within. same_from_xor (get_or words k 0) (get_or other k 0) (c.lanes.invariant k (omega arith))) in
    (λ _ i. ap (λ (ws : List ℕ). bit_in ws i) same, λ _. refl)
