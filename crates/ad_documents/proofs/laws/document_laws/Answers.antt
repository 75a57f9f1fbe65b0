use Rattle.ad_documents.proofs.CauseLemmas.{one_cause, ontology_or_unfit}
use Rattle.ad_documents.proofs.laws.document_laws.Goals as goal

pub returns-clause-one_cause : goal.returns-clause-one_cause
returns-clause-one_cause c = one_cause c.one_outcome.ensures.documents c.one_outcome.ensures.document_is_read c.one_outcome.ensures.refused

pub returns-clause-ontology : goal.returns-clause-ontology
returns-clause-ontology c = ontology_or_unfit c.one_outcome.ensures.documents c.one_outcome.ensures.document_is_read
