use Rattle.ad_canonical.proofs.Readings.{document_read, document_only}
use Rattle.ad_canonical.proofs.laws.written_document_is_read.Goals as goal

pub returns : goal.returns
returns c = record { tokens = document_read; only = document_only }
