use Rattle.ad_items.proofs.Existing.{splits_always}
use Rattle.ad_items.proofs.Splitting.{splits_once}
use Rattle.ad_items.proofs.laws.one_split.Goals as goal

pub returns : goal.returns
returns c = record { some = splits_always; one = splits_once }
