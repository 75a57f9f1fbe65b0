-- By the lemmas on the editions.
use Rattle.ad_core.proofs.EditionsLemmas.{follow-events}
use Rattle.ad_core.proofs.laws.machine_laws.Goals as goal

pub returns-clause-editions : goal.returns-clause-editions
returns-clause-editions c = follow-events
