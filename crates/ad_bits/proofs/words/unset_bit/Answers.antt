use Rattle.std.proofs.Common.{ℕ, ap, eqb, get_or, arith, bit_and, w64, ◌∙◌, ◌*◌, ◌^◌, ◌/◌, ◌%◌}
use Rattle.std.specs.Int.{bit_not}
use Rattle.std.proofs.lemmas.Nat.Bits.{bit_at_clear_same, bit_at_clear_other}
use Rattle.ad_bits.proofs.Bits.{written_same, written_other}
use Rattle.ad_bits.proofs.words.unset_bit.Goals as goal

pub returns-clause-unset : goal.returns-clause-unset
returns-clause-unset c =
    let words = c.args.words.now in
    let i = c.args.i in
    let value : ℕ = bit_and (get_or words (i / 64) 0) (bit_not w64 (1 * 2 ^ (i % 64) % 2 ^ 64)) in
    written_same words i value c.requires ∙ ap (λ n. eqb n 1) (bit_at_clear_same w64 (get_or words (i / 64) 0) (i % 64) (omega arith))

pub returns-clause-others : goal.returns-clause-others
returns-clause-others c =
    let words = c.args.words.now in
    let i = c.args.i in
    let value : ℕ = bit_and (get_or words (i / 64) 0) (bit_not w64 (1 * 2 ^ (i % 64) % 2 ^ 64)) in
    written_other words i value c.requires (λ j within away. bit_at_clear_other w64 (get_or words (i / 64) 0) (i % 64) (omega arith) j within away)
