use Rattle.ad_build.proofs.TextLemmas.{fewer}
use Rattle.ad_build.proofs.texts.stated.Goals as goal

pub additions-requires : goal.additions-requires
additions-requires c = fewer c.args.items c.skip_names.new.self c.skip_notes.new.self c.in_ok-skip_names.ensures c.in_ok-skip_notes.ensures c.requires
