-- What was found so far, with the marked axioms that are left, is all that are marked.
use Rattle.std.proofs.Common.{◌≡◌, ◌++◌, drop, map}
use Rattle.ad_theory.specs.Sweep.{chosen}
use Rattle.ad_syntax_laws.specs.OntologyModule.{AreAdditions, axioms_of}
use Rattle.ad_sweep.proofs.chosen.marked.Given as goal

abbrev pub invariant-loop-k : goal.invariant-loop-k
invariant-loop-k g l = record {
  additions : AreAdditions l.found;
  axioms : axioms_of l.found ++ chosen (drop l.k l.marks.items) (map g.A.Lent.lent (drop l.k l.owners)) ≡ chosen l.marks.items (map g.A.Lent.lent l.owners);
}
