use Rattle.ad_canonical.proofs.Readings.{no_front, one_text}
use Rattle.ad_canonical.proofs.laws.written_axioms_differ.Goals as goal

pub returns : goal.returns
returns c = record { prefix = no_front; text = one_text }
