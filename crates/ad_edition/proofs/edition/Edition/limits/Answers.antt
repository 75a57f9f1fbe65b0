-- The type keeps it.
use Rattle.ad_edition.proofs.OntologyLemmas.{sound_as}
use Rattle.ad_edition.proofs.edition.Edition.limits.Goals as goal

pub returns-clause-standard : goal.returns-clause-standard
returns-clause-standard c = (sound_as _ _ _ _ c.self.invariant.0 c.self.view_is).standard
