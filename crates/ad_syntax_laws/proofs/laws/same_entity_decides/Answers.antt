use Rattle.ad_syntax_laws.proofs.EntityLemmas.{same_entity_is, same_entity_of}
use Rattle.ad_syntax_laws.proofs.laws.same_entity_decides.Goals as goal

pub returns : goal.returns
returns c a b = (same_entity_is a b, same_entity_of a b)
