use Rattle.ad_ontology_atoms.proofs.ShapeLemmas.{slots_shape}
use Rattle.ad_ontology_atoms.proofs.laws.shapes_of_slots.Goals as goal

pub returns : goal.returns
returns c number slots places ontology kind n tables placed distinct genuine = slots_shape number slots places ontology placed distinct tables kind n genuine
