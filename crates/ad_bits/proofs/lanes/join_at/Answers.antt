use Rattle.std.proofs.Common.{bit_or, sym, ◌∙◌}
use lib.Lanes.{zip2, chunk}
use Rattle.std.proofs.lemmas.Simd.{length-chunk, length-zip2}
use Rattle.ad_bits.proofs.LaneLemmas.{zipped, lanes_put}
use Rattle.ad_bits.proofs.lanes.join_at.Goals as goal

pub returns : goal.returns
returns c =
    let words = c.args.words.now in
    let other = c.args.other.now in
    let at = c.args.at in
    let here = length-chunk at 4 words c.requires.here in
    let there = length-chunk at 4 other c.requires.there in
    lanes_put bit_or words other (zip2 bit_or (chunk at 4 words) (chunk at 4 other)) at (length-zip2 bit_or (chunk at 4 words) (chunk at 4 other) (here ∙ sym there) ∙ here)
    (λ j within. zipped bit_or words other at j c.requires.here c.requires.there within) c.requires.here
