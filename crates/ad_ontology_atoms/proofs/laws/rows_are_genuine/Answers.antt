use Rattle.ad_ontology_atoms.proofs.GenuineLemmas.{in_row, rows_genuine, rows_are}
use Rattle.ad_ontology_atoms.proofs.laws.rows_are_genuine.Goals as goal

pub returns : goal.returns
returns c number slots places ontology kind n tables placed distinct genuine = (
  in_row places ontology tables kind,
  rows_genuine number slots places ontology placed distinct tables kind n genuine,
  rows_are number slots places ontology placed distinct tables kind,
)
