use Rattle.std.proofs.Common.{ℕ, List, [], replicate, refl}
use Rattle.std.proofs.lemmas.List.{get_or-replicate}
use Rattle.ad_bits.proofs.LaneLemmas.{lanes_put}
use Rattle.ad_bits.proofs.lanes.clear_at.Goals as goal

pub returns : goal.returns
returns c =
    let zeros : List ℕ = replicate 4 0 in
    lanes_put (λ _ _. 0) c.args.words.now [] zeros c.args.at refl (λ j within. get_or-replicate 4 j 0 0 within) c.requires
