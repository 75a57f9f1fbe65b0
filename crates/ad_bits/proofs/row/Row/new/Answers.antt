use Rattle.std.proofs.Common.{◌≡◌, ◌*◌, arith, false, replicate, length, ap, sym, ◌∙◌}
use Rattle.std.proofs.lemmas.List.{length-replicate}
use Rattle.ad_bits.specs.Rows.{has}
use Rattle.ad_bits.specs.Words.{words_for}
use Rattle.ad_bits.proofs.Rows.{has-replicate}
use Rattle.ad_bits.proofs.Views.{closed, bit_in_zeros}
use Rattle.ad_bits.proofs.row.Row.new.Goals as goal

pub invariant_of-result : goal.invariant_of-result
invariant_of-result c =
    let size = c.args.size in
    let row = replicate size false in
    let count = words_for size in
    let whole : 4 * c.div_ceil-vectors.result ≡ count = omega (arith, c.div_ceil-vectors.ensures) in
    let written = closed size c.in_ok-vec.field-0.items (replicate count 0) row (c.in_ok-vec.ensures.items_if_clones_equal (λ _ is. is) ∙ ap (λ n. replicate n 0) whole)
    (record {
      fits = c.ranges.size.fits;
      size_is = length-replicate size false;
      room = length-replicate count 0;
      bits = λ i. has-replicate size i ∙ sym (bit_in_zeros count i);
    }) in
    written.0

pub returns : goal.returns
returns c =
    let size = c.args.size in
    let row = replicate size false in
    let count = words_for size in
    let whole : 4 * c.div_ceil-vectors.result ≡ count = omega (arith, c.div_ceil-vectors.ensures) in
    let written = closed size c.in_ok-vec.field-0.items (replicate count 0) row (c.in_ok-vec.ensures.items_if_clones_equal (λ _ is. is) ∙ ap (λ n. replicate n 0) whole)
    (record {
      fits = c.ranges.size.fits;
      size_is = length-replicate size false;
      room = length-replicate count 0;
      bits = λ i. has-replicate size i ∙ sym (bit_in_zeros count i);
    }) in
    record { row = written.1; size = ap length written.1 ∙ length-replicate size false; empty = λ i. ap (λ r. has r i) written.1 ∙ has-replicate size i }
