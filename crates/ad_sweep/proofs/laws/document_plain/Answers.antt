use Rattle.ad_sweep.proofs.DocumentLaws.{plain_is}
use Rattle.ad_sweep.proofs.laws.document_plain.Goals as goal

pub returns : goal.returns
returns c kind seed O D plain = plain_is kind seed O plain D
