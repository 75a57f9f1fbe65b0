use Rattle.std.proofs.Common.{bit_and, sym, ◌∙◌}
use lib.Lanes.{zip2, chunk}
use Rattle.std.proofs.lemmas.Simd.{length-chunk, length-zip2}
use Rattle.ad_bits.proofs.LaneLemmas.{zipped, lanes_some, lanes_none}
use Rattle.ad_bits.proofs.lanes.meet_at.Goals as goal

pub returns-clause-some : goal.returns-clause-some
returns-clause-some c =
    let words = c.args.words.now in
    let other = c.args.other.now in
    let at = c.args.at in
    let here = length-chunk at 4 words c.requires.here in
    let there = length-chunk at 4 other c.requires.there in
    lanes_some bit_and words other (zip2 bit_and (chunk at 4 words) (chunk at 4 other)) at (length-zip2 bit_and (chunk at 4 words) (chunk at 4 other) (here ∙ sym there) ∙ here)
    (λ j within. zipped bit_and words other at j c.requires.here c.requires.there within)

pub returns-clause-none : goal.returns-clause-none
returns-clause-none c =
    let words = c.args.words.now in
    let other = c.args.other.now in
    let at = c.args.at in
    let here = length-chunk at 4 words c.requires.here in
    let there = length-chunk at 4 other c.requires.there in
    lanes_none bit_and words other (zip2 bit_and (chunk at 4 words) (chunk at 4 other)) at (length-zip2 bit_and (chunk at 4 words) (chunk at 4 other) (here ∙ sym there) ∙ here)
    (λ j within. zipped bit_and words other at j c.requires.here c.requires.there within)
