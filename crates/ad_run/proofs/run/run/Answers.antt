-- A command on a generated ontology leaves the source as it is.
use Rattle.ad_run.proofs.run.run.Goals as goal

pub returns-in-Generate-clause-ends : goal.returns-in-Generate-clause-ends
returns-in-Generate-clause-ends g c = c.run_generate.ensures.ends _ _

pub returns-in-Generate-clause-cause : goal.returns-in-Generate-clause-cause
returns-in-Generate-clause-cause g c = c.run_generate.ensures.cause _ _

pub returns-in-Summary-clause-ends : goal.returns-in-Summary-clause-ends
returns-in-Summary-clause-ends g c = c.run_summary.ensures.ends _ _

pub returns-in-Summary-clause-cause : goal.returns-in-Summary-clause-cause
returns-in-Summary-clause-cause g c = c.run_summary.ensures.cause _ _
