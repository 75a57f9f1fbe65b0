-- A batch leaves the axioms distinct.
use Rattle.std.proofs.Common.{sym, subst}
use Rattle.std.specs.List.{IsDistinct}
use Rattle.ad_apply.specs.Same.{same_axiom}
use Rattle.ad_apply.specs.Steps.{batch_in}
use Rattle.ad_apply.proofs.AppliedLemmas.{distinct-applied}
use Rattle.ad_syntax_laws.specs.OntologyModule.{values}
use Rattle.ad_edition.proofs.edition.Edition.begin_unmoved.Goals as goal

pub next_ontology-requires-clause-distinct : goal.next_ontology-requires-clause-distinct
next_ontology-requires-clause-distinct c =
    let old = subst (IsDistinct same_axiom) (sym c.axioms.ensures.axioms) c.axioms.ensures.distinct in
    subst (IsDistinct same_axiom) (sym c.in_ok-outcome.ensures.axioms) (distinct-applied (values c.axioms.result.now) (batch_in c.as_slice.result.now) old)
