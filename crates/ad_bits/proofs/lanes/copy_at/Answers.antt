use lib.Lanes.{chunk}
use Rattle.std.proofs.lemmas.Simd.{length-chunk, get_or-chunk}
use Rattle.ad_bits.proofs.LaneLemmas.{lanes_put}
use Rattle.ad_bits.proofs.lanes.copy_at.Goals as goal

pub returns : goal.returns
returns c =
    let other = c.args.other.now in
    lanes_put (λ _ there. there) c.args.words.now other (chunk c.args.at 4 other) c.args.at (length-chunk c.args.at 4 other c.requires.there)
    (λ j within. get_or-chunk c.args.at 4 other j 0 within) c.requires.here
