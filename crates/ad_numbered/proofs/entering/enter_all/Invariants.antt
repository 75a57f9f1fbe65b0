-- So far the entities of the first logical axioms were entered.
use Rattle.std.proofs.Common.{◌≡◌, take}
use Rattle.ad_syntax_laws.specs.OntologyModule.{logical, values}
use Rattle.ad_numbered.specs.Making.{AreEntered}
use Rattle.ad_numbered.specs.Numbered.{signatures}
use Rattle.ad_numbered.proofs.entering.enter_all.Given as goal

abbrev pub invariant-loop-noted : goal.invariant-loop-noted
invariant-loop-noted l = record {
  entered : AreEntered (signatures (logical (take l.noted-index (values l.axioms)))) l.symbols.names;
  limit : l.symbols.limit ≡ l.initial.symbols.limit;
}
