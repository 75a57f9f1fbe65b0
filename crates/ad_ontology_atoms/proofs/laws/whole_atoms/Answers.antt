use Rattle.ad_ontology_atoms.proofs.UnionLemmas.{hold_atoms}
use Rattle.ad_ontology_atoms.proofs.laws.whole_atoms.Goals as goal

pub returns : goal.returns
returns c = hold_atoms
