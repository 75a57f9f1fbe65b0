use Rattle.ad_phrases.specs.Readings.{classes, ranges, properties, individuals, literals}
use Rattle.ad_phrases.proofs.Once.{built_once, not_refused, refused_once}
use Rattle.ad_phrases.proofs.Either.{built_either}
use Rattle.ad_phrases.proofs.laws.one_phrase.Goals as goal

pub returns : goal.returns
returns c = record {
  class = built_once classes;
  range = built_once ranges;
  property = built_once properties;
  individual = built_once individuals;
  literal = built_once literals;
  class_is_built = not_refused classes;
  range_is_built = not_refused ranges;
  property_is_built = not_refused properties;
  individual_is_built = not_refused individuals;
  literal_is_built = not_refused literals;
  refused = refused_once;
  class_either = built_either classes;
  range_either = built_either ranges;
  property_either = built_either properties;
  individual_either = built_either individuals;
  literal_either = built_either literals;
}
