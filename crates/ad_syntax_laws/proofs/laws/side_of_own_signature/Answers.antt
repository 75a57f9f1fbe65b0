use Rattle.ad_base.specs.declared.limits.Side.TheVariants as sides
use Rattle.ad_locality.specs.Signature.{in_signature}
use Rattle.ad_syntax_laws.proofs.LocalityLemmas.{local_seen}
use Rattle.ad_syntax_laws.proofs.laws.side_of_own_signature.Goals as goal

pub returns-clause-own : goal.returns-clause-own
returns-clause-own c a = local_seen sides.Bottom sides.Top (in_signature a) a (λ e h. h)

pub returns-clause-seen : goal.returns-clause-seen
returns-clause-seen c = local_seen sides.Bottom sides.Top
