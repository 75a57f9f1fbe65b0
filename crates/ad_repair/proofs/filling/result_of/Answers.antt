-- Each number is that of a result.
use Rattle.std.proofs.Common.{◌∙◌, sym}
use Rattle.ad_repair.proofs.filling.result_of.Goals as goal

pub share-requires : goal.share-requires
share-requires c = c.requires c.args.slot c.in-Some.number (sym c.number_at.ensures ∙ c.in-Some.is)
