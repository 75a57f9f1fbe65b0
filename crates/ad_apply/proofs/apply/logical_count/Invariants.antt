-- The logical axioms so far.
use Rattle.std.proofs.Common.{◌≡◌, ◌≤◌, length, take}
use Rattle.ad_syntax_laws.specs.OntologyModule.{logical, values}
use Rattle.ad_apply.proofs.apply.logical_count.Given as goal

abbrev pub invariant-loop-noted : goal.invariant-loop-noted
invariant-loop-noted l = (l.count ≡ length (logical (take l.noted-index (values l.axioms)))) × (l.count ≤ l.noted-index)
