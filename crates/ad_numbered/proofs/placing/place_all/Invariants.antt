-- So far the first axioms were placed.
use Rattle.std.proofs.Common.{◌≡◌, take}
use Rattle.ad_signature.specs.Numbering.{number_in}
use Rattle.ad_flat.specs.Universes.{held_in, most_in, symbols_in}
use Rattle.ad_numbered.specs.Making.{AreInOrder}
use Rattle.ad_syntax_laws.specs.OntologyModule.{values}
use Rattle.ad_numbered.proofs.placing.place_all.Given as goal

abbrev pub invariant-loop-noted : goal.invariant-loop-noted
invariant-loop-noted l = record {
  order : AreInOrder (number_in l.names.names) (take l.noted-index (values l.axioms)) l.slots.items (held_in l.universe);
  most : most_in l.universe ≡ most_in l.initial.universe;
  symbols : symbols_in l.universe ≡ symbols_in l.initial.universe;
}
