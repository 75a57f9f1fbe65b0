use Rattle.ad_split.proofs.CoverLemmas.{tops_cover, tops_apart}
use Rattle.ad_split.proofs.laws.parts_cover.Goals as goal

pub returns-clause-cover : goal.returns-clause-cover
returns-clause-cover g c G order a o own = tops_cover G order a o own

pub returns-clause-apart : goal.returns-clause-apart
returns-clause-apart g c G order a b m n within = tops_apart G order a b m n within
