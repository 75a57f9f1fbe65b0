use Rattle.std.proofs.Common.{List}
use Rattle.ad_tree.specs.declared.axioms.Noted.{Noted}
use Rattle.ad_entity.specs.declared.entities.Entity.{Entity}
use Rattle.ad_tree.specs.declared.edits.Op.{Op}
use Rattle.ad_grammar.specs.Texts.{SpellsEdit, SpellsSeed, SpellsSingle}
use Rattle.ad_read.specs.Texts.{SpellsAdditions}
use Rattle.ad_read.specs.declared.texts.whole.Whole.TheVariants.{Document, Edit, Seed, Single}
use Rattle.ad_read.proofs.Outcomes.{documents as reads_documents, edits as reads_edits, seeds as reads_seeds, singles as reads_singles, text_once, text_refused}
use Rattle.ad_read.proofs.Refusals.{refused_once}
use Rattle.ad_read.proofs.Either.{document_either, edit_either, seed_either, single_either}
use Rattle.ad_read.proofs.laws.one_outcome.Goals as goal

pub returns : goal.returns
returns c = record {
  documents = text_once Document (List Op) SpellsAdditions reads_documents;
  edits = text_once Edit (List Op) SpellsEdit reads_edits;
  seeds = text_once Seed (List Entity) SpellsSeed reads_seeds;
  singles = text_once Single Noted SpellsSingle reads_singles;
  document_is_read = λ limit text x refused h. text_refused Document (List Op) SpellsAdditions reads_documents limit text x h refused;
  edit_is_read = λ limit text x refused h. text_refused Edit (List Op) SpellsEdit reads_edits limit text x h refused;
  seed_is_read = λ limit text x refused h. text_refused Seed (List Entity) SpellsSeed reads_seeds limit text x h refused;
  single_is_read = λ limit text x refused h. text_refused Single Noted SpellsSingle reads_singles limit text x h refused;
  refused = refused_once;
  document_either = document_either;
  edit_either = edit_either;
  seed_either = seed_either;
  single_either = single_either;
}
