use Rattle.std.proofs.Common.{bit_and, map, sym, ◌∙◌, w64}
use lib.Lanes.{zip2, chunk}
use Rattle.std.specs.Int.{bit_not}
use Rattle.std.proofs.lemmas.List.{length-map}
use Rattle.std.proofs.lemmas.Simd.{length-chunk, length-zip2}
use Rattle.ad_bits.proofs.LaneLemmas.{zipped_map, lanes_some, lanes_none}
use Rattle.ad_bits.proofs.lanes.exceed_at.Goals as goal

pub returns-clause-some : goal.returns-clause-some
returns-clause-some c =
    let words = c.args.words.now in
    let other = c.args.other.now in
    let at = c.args.at in
    let here = length-chunk at 4 words c.requires.here in
    let there = length-chunk at 4 other c.requires.there in
    lanes_some (λ here there. bit_and here (bit_not w64 there)) words other (zip2 bit_and (chunk at 4 words) (map (bit_not w64) (chunk at 4 other))) at
    (length-zip2 bit_and (chunk at 4 words) (map (bit_not w64) (chunk at 4 other)) (here ∙ sym there ∙ sym (length-map (chunk at 4 other) (bit_not w64))) ∙ here)
    (λ j within. zipped_map bit_and (bit_not w64) words other at j c.requires.here c.requires.there within)

pub returns-clause-none : goal.returns-clause-none
returns-clause-none c =
    let words = c.args.words.now in
    let other = c.args.other.now in
    let at = c.args.at in
    let here = length-chunk at 4 words c.requires.here in
    let there = length-chunk at 4 other c.requires.there in
    lanes_none (λ here there. bit_and here (bit_not w64 there)) words other (zip2 bit_and (chunk at 4 words) (map (bit_not w64) (chunk at 4 other))) at
    (length-zip2 bit_and (chunk at 4 words) (map (bit_not w64) (chunk at 4 other)) (here ∙ sym there ∙ sym (length-map (chunk at 4 other) (bit_not w64))) ∙ here)
    (λ j within. zipped_map bit_and (bit_not w64) words other at j c.requires.here c.requires.there within)
