-- The numbers of the entities so far.
use Rattle.std.proofs.Common.{◌≡◌, length, take}
use Rattle.ad_bits.specs.Rows.{has}
use Rattle.ad_module_document.specs.Documents.{AreSeedNumbers}
use Rattle.ad_module_document.proofs.seeds.mark_seed.Given as goal

abbrev pub invariant-loop-entity : goal.invariant-loop-entity
invariant-loop-entity l = record {
  numbers : AreSeedNumbers l.ontology (take l.entity-index l.entities) (has l.row);
  size : length l.row ≡ length l.initial.row;
}
