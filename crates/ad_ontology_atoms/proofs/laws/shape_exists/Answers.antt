use Rattle.ad_ontology_atoms.proofs.ExistenceLemmas.{some_shape}
use Rattle.ad_ontology_atoms.proofs.laws.shape_exists.Goals as goal

pub returns : goal.returns
returns c kind ontology = some_shape kind ontology
