use Rattle.ad_ontology_atoms.proofs.ShapeLemmas.{shapes_are_one}
use Rattle.ad_ontology_atoms.proofs.laws.one_shape.Goals as goal

pub returns : goal.returns
returns c kind ontology one other m n = shapes_are_one kind ontology one other m n
