use Rattle.ad_cells.proofs.StackLemmas as lemmas
use Rattle.ad_cells.proofs.laws.codes_shrink.Goals as goal

pub returns : goal.returns
returns c = lemmas.codes_shrink
