use Rattle.ad_canonical.proofs.Readings.{axiom_read, axiom_only, axiom_single, line_read, line_only}
use Rattle.ad_canonical.proofs.laws.written_axiom_is_read.Goals as goal

pub returns : goal.returns
returns c = record { tokens = axiom_read; only = axiom_only; single = axiom_single; line = line_read; only_of_line = line_only }
