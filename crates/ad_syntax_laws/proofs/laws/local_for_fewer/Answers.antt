use Rattle.ad_base.specs.declared.limits.Side.TheVariants as sides
use Rattle.ad_syntax_laws.proofs.LocalityLemmas.{antitone, local_own}
use Rattle.ad_syntax_laws.proofs.laws.local_for_fewer.Goals as goal

pub returns-clause-bottom : goal.returns-clause-bottom
returns-clause-bottom c = antitone sides.Bottom

pub returns-clause-top : goal.returns-clause-top
returns-clause-top c = antitone sides.Top

pub returns-clause-own : goal.returns-clause-own
returns-clause-own c = local_own
