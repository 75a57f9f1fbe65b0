use Rattle.ad_module_document.proofs.ChosenLemmas.{found_document}
use Rattle.ad_module_document.proofs.laws.found_documents.Goals as goal

pub returns : goal.returns
returns c = found_document
