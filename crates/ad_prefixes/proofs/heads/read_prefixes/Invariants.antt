use Rattle.std.proofs.Common.{◌-◌, length}
use Rattle.ad_prefixes.specs.Declarations.{declarations}
use Rattle.ad_prefixes.proofs.HeadLemmas.{Taken}
use Rattle.ad_prefixes.proofs.heads.read_prefixes.Given as goal

abbrev pub invariant-declarations : goal.invariant-declarations
invariant-declarations l = Taken l.text l.tokens (declarations l.prefixes) l.at

abbrev pub decreases-declarations : goal.decreases-declarations
decreases-declarations l = length l.tokens - l.at
