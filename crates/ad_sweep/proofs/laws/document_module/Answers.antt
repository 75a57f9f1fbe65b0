use Rattle.ad_sweep.proofs.DocumentLaws.{document_logical}
use Rattle.ad_sweep.proofs.laws.document_module.Goals as goal

pub returns : goal.returns
returns c = document_logical
