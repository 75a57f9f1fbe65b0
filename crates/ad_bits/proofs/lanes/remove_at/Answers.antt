use Rattle.std.proofs.Common.{bit_and, map, sym, ◌∙◌, w64}
use lib.Lanes.{zip2, chunk}
use Rattle.std.specs.Int.{bit_not}
use Rattle.std.proofs.lemmas.List.{length-map}
use Rattle.std.proofs.lemmas.Simd.{length-chunk, length-zip2}
use Rattle.ad_bits.proofs.LaneLemmas.{zipped_map, lanes_put}
use Rattle.ad_bits.proofs.lanes.remove_at.Goals as goal

pub returns : goal.returns
returns c =
    let words = c.args.words.now in
    let other = c.args.other.now in
    let at = c.args.at in
    let here = length-chunk at 4 words c.requires.here in
    let there = length-chunk at 4 other c.requires.there in
    lanes_put (λ here there. bit_and here (bit_not w64 there)) words other (zip2 bit_and (chunk at 4 words) (map (bit_not w64) (chunk at 4 other))) at
    (length-zip2 bit_and (chunk at 4 words) (map (bit_not w64) (chunk at 4 other)) (here ∙ sym there ∙ sym (length-map (chunk at 4 other) (bit_not w64))) ∙ here)
    (λ j within. zipped_map bit_and (bit_not w64) words other at j c.requires.here c.requires.there within) c.requires.here
