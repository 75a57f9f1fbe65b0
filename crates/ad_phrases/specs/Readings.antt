-- What each form of phrase owes of the trees that it spells, and that each has it.
use Rattle.std.specs.Prelude.{◌≡◌, false}
use Rattle.ad_tree.specs.declared.names.ObjProp.{ObjProp}
use Rattle.ad_tree.specs.declared.names.Individual.{Individual}
use Rattle.ad_tree.specs.declared.literals.Literal.{Literal}
use Rattle.ad_tree.specs.declared.ranges.Range.{Range}
use Rattle.ad_tree.specs.declared.classes.Class.{Class}
use Rattle.ad_grammar.specs.Shapes.{Text}
use Rattle.ad_grammar.specs.Names.{Words, SpellsProperty, SpellsIndividual, SpellsLiteral}
use Rattle.ad_grammar.specs.Phrases.{SpellsRange, SpellsClass}
use Rattle.ad_grammar.specs.Faults.{Form, IsOf}
use Rattle.ad_grammar.specs.Faults as form
use Rattle.ad_grammar_laws.specs.Known.{Moved}
use Rattle.ad_grammar_laws.proofs.Words.{class_moves, range_moves, property_moves, individual_moves, literal_moves}
use Rattle.ad_terms.specs.Items.{as_class, as_range, as_property, as_individual, as_literal}
use Rattle.ad_build.proofs.Phrases.{properties_read, individuals_read, literals_read, ranges_read}
use Rattle.ad_build.proofs.ClassPhrases.{classes_read}
use Rattle.ad_build.proofs.Uniqueness.{once}

-- a form of phrase and the trees that it spells: each phrase of the form spells one under some prefixes, which are known
-- then, and another under any others where they are known; and no two under the same
pub record Reading (form : Form) (X : Type 0) (spells : Words → X → Text → Type 0) : Type 0 where
  pub spelled : (ts : Text) → IsOf false form ts → (words : Words) × (x : X) × spells words x ts
  pub moves : (words words' : Words) (x : X) (ts : Text) → spells words x ts → Moved words words' spells ts
  pub one : (words : Words) (x y : X) (ts : Text) → spells words x ts → spells words y ts → x ≡ y

pub classes : Reading form.class Class (SpellsClass false)
classes = record { spelled = λ ts h. h; moves = class_moves; one = λ words. once words (SpellsClass false words) as_class (classes_read words) }

pub ranges : Reading form.range Range SpellsRange
ranges = record { spelled = λ ts h. h; moves = range_moves; one = λ words. once words (SpellsRange words) as_range (ranges_read words) }

pub properties : Reading form.property ObjProp SpellsProperty
properties = record { spelled = λ ts h. h; moves = property_moves; one = λ words. once words (SpellsProperty words) as_property (properties_read words) }

pub individuals : Reading form.individual Individual SpellsIndividual
individuals = record { spelled = λ ts h. h; moves = individual_moves; one = λ words. once words (SpellsIndividual words) as_individual (individuals_read words) }

pub literals : Reading form.literal Literal SpellsLiteral
literals = record { spelled = λ ts h. h; moves = literal_moves; one = λ words. once words (SpellsLiteral words) as_literal (literals_read words) }
