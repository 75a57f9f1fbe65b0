-- By the counts of its axioms, entities and bytes.
use Rattle.ad_gen_laws.proofs.FitLemmas.{generated_within}
use Rattle.ad_gen_laws.proofs.laws.generated_fit.Goals as goal

pub returns : goal.returns
returns c = generated_within
