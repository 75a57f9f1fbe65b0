-- By the lemmas on logs.
use Rattle.ad_edition.proofs.LogLemmas.{entries_differ, replay-push, IsLog-front}
use Rattle.ad_edition.proofs.laws.log_laws.Goals as goal

pub returns-clause-entries : goal.returns-clause-entries
returns-clause-entries c = entries_differ

pub returns-clause-replay : goal.returns-clause-replay
returns-clause-replay c = replay-push

pub returns-clause-fronts : goal.returns-clause-fronts
returns-clause-fronts c = IsLog-front
