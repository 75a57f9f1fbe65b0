use Rattle.ad_canonical.proofs.DepthTexts.{alike, document_each, edit_each, single_each, document_within}
use Rattle.ad_canonical.proofs.laws.written_nests_alike.Goals as goal

pub returns : goal.returns
returns c = record { axiom_alike = alike; document = document_each; edit = edit_each; single = single_each; written = document_within }
