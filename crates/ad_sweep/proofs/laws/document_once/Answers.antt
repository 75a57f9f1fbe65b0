use Rattle.ad_sweep.proofs.DocumentLaws.{some_document, one_document}
use Rattle.ad_sweep.proofs.laws.document_once.Goals as goal

pub returns : goal.returns
returns c = record { exists = some_document; one = one_document }
