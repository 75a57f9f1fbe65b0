use Rattle.ad_grammar_laws.proofs.Words.{property_moves, individual_moves, literal_moves, range_moves, class_moves, entity_moves, annotation_moves, noted_moves}
use Rattle.ad_grammar_laws.proofs.WordsOfTexts.{ontology_moves, operations_move, entities_move}
use Rattle.ad_grammar_laws.proofs.laws.any_meaning.Goals as goal

pub returns : goal.returns
returns c = record {
  class = class_moves;
  range = range_moves;
  property = property_moves;
  individual = individual_moves;
  literal = literal_moves;
  entity = entity_moves;
  annotation = annotation_moves;
  noted = noted_moves;
  ontology = ontology_moves;
  operations = operations_move;
  entities = entities_move;
}
