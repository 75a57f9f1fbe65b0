-- By the ranks of the axioms, which rise.
use Rattle.ad_gen.specs.Generated.{generated}
use Rattle.ad_gen_laws.proofs.AddedLemmas.{added_to_none}
use Rattle.ad_gen_laws.proofs.RisingLemmas.{generated_distinct}
use Rattle.ad_gen_laws.proofs.laws.generated_are_distinct.Goals as goal

pub returns-clause-distinct : goal.returns-clause-distinct
returns-clause-distinct c = generated_distinct

pub returns-clause-added : goal.returns-clause-added
returns-clause-added c = λ size few. added_to_none (generated size) (generated_distinct size few)
