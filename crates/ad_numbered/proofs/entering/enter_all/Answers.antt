-- The entities of one more axiom were entered, or they weren't, because there are too many.
use Rattle.std.proofs.Common.{subst, ◌∙◌}
use Rattle.std.proofs.lemmas.Result.{err_from_is_err_and}
use Rattle.ad_syntax_laws.specs.OntologyModule.{logical, values}
use Rattle.ad_numbered.specs.Making.{AreEntered, AreTooMany}
use Rattle.ad_numbered.specs.Numbered.{signatures}
use Rattle.ad_numbered.proofs.ListLemmas.{value_more}
use Rattle.ad_numbered.proofs.EnteringLemmas.{signatures_more, too_many_whole}
use Rattle.ad_numbered.proofs.entering.enter_all.Goals as goal

pub loop-noted-preserved : goal.loop-noted-preserved
loop-noted-preserved c =
    let a = c.deref.result.now in
    let more = value_more c.args.axioms.now c.loop-noted.noted-index c.noted-item.result c.loop-noted-test.true c.noted-item.is a c.deref.ensures in
    record {
      entered = subst (λ l. AreEntered l c.enter_logical.new.symbols.names) (signatures_more (values c.args.axioms.now) c.loop-noted.noted-index a more) (c.in_ok-enter_logical.ensures.entered _ c.loop-noted.invariant.entered);
      limit = c.in_ok-enter_logical.ensures.limit ∙ c.loop-noted.invariant.limit;
    }

pub returns-in_err-enter_logical-clause-refused : goal.returns-in_err-enter_logical-clause-refused
returns-in_err-enter_logical-clause-refused c =
    let axioms = values c.args.axioms.now in
    let a = c.deref.result.now in
    let more = value_more c.args.axioms.now c.loop-noted.noted-index c.noted-item.result c.loop-noted-test.true c.noted-item.is a c.deref.ensures in
    let p = err_from_is_err_and c.from_residual.result c.from_residual.ensures.1 in
    rw (p.1, p.2) (subst (λ limit. AreTooMany limit (signatures (logical axioms)) c.in_err-enter_logical.field-0.0) c.loop-noted.invariant.limit
    (too_many_whole axioms c.loop-noted.noted-index a more c.loop-noted.symbols.limit c.in_err-enter_logical.field-0.0 (c.in_err-enter_logical.ensures.refused _ c.loop-noted.invariant.entered)))
