use Rattle.std.proofs.Common.{false}
use Rattle.ad_grammar.specs.Names.{SpellsProperty, SpellsIndividual, SpellsLiteral}
use Rattle.ad_grammar.specs.Phrases.{SpellsRange, SpellsClass}
use Rattle.ad_grammar.specs.Axioms.{SpellsNoted}
use Rattle.ad_terms.specs.Items.{as_class, as_range, as_property, as_individual, as_literal, as_axiom}
use Rattle.ad_build.proofs.Phrases.{properties_read, individuals_read, literals_read, ranges_read}
use Rattle.ad_build.proofs.ClassPhrases.{classes_read}
use Rattle.ad_build.proofs.Uniqueness.{once, noteds_read}
use Rattle.ad_build.proofs.laws.one_tree.Goals as goal

pub returns : goal.returns
returns c = record {
  class = λ words. once words (SpellsClass false words) as_class (classes_read words);
  range = λ words. once words (SpellsRange words) as_range (ranges_read words);
  property = λ words. once words (SpellsProperty words) as_property (properties_read words);
  individual = λ words. once words (SpellsIndividual words) as_individual (individuals_read words);
  literal = λ words. once words (SpellsLiteral words) as_literal (literals_read words);
  noted = λ words. once words (SpellsNoted false words) as_axiom (noteds_read words);
}
