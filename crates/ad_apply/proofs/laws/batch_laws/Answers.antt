-- By the lemmas on ontologies.
use Rattle.ad_apply.proofs.AppliedLemmas.{distinct-applied, counts_add_up}
use Rattle.ad_apply.proofs.laws.batch_laws.Goals as goal

pub returns-clause-distinct : goal.returns-clause-distinct
returns-clause-distinct c = distinct-applied

pub returns-clause-counts : goal.returns-clause-counts
returns-clause-counts c = counts_add_up
