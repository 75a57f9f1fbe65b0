-- So far the first entities of the list were entered.
use Rattle.std.proofs.Common.{◌≡◌, ◌++◌, List, take}
use Rattle.ad_entity.specs.declared.entities.Entity.{Entity}
use Rattle.ad_numbered.specs.Making.{AreEntered}
use Rattle.ad_numbered.proofs.entering.enter_entities.Given as goal

abbrev pub invariant-loop-entity : goal.invariant-loop-entity
invariant-loop-entity l = record {
  entered : (before : List Entity) → AreEntered before l.initial.symbols.names → AreEntered (before ++ take l.entity-index l.entities) l.symbols.names;
  limit : l.symbols.limit ≡ l.initial.symbols.limit;
}
