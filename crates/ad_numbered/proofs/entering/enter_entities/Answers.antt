-- One more entity was entered, or it wasn't, because there are too many.
use Rattle.std.proofs.Common.{◌++◌, subst, ◌∙◌}
use Rattle.std.proofs.lemmas.Result.{err_from_is_err_and}
use Rattle.ad_numbered.specs.Making.{AreTooMany}
use Rattle.ad_numbered.proofs.EnteringLemmas.{entered_next, refused_next}
use Rattle.ad_numbered.proofs.entering.enter_entities.Goals as goal

pub loop-entity-preserved : goal.loop-entity-preserved
loop-entity-preserved c =
    let names = c.loop-entity.symbols.names in
    record {
      entered = λ before first. entered_next before c.args.entities.now c.loop-entity.entity-index c.entity-item.result c.loop-entity-test.true c.entity-item.is
          c.loop-entity.symbols.limit names c.enter.new.self.names c.in_ok-enter.field-0 (c.loop-entity.invariant.entered before first) c.in_ok-enter.ensures.entered;
      limit = c.in_ok-enter.ensures.limit ∙ c.loop-entity.invariant.limit;
    }

pub returns-in_err-enter-clause-refused : goal.returns-in_err-enter-clause-refused
returns-in_err-enter-clause-refused c =
    let p = err_from_is_err_and c.from_residual.result c.from_residual.ensures.1 in
    rw (p.1, p.2) (λ before first. subst (λ limit. AreTooMany limit (before ++ c.args.entities.now) c.in_err-enter.field-0.0) c.loop-entity.invariant.limit
    (refused_next before c.args.entities.now c.loop-entity.entity-index c.entity-item.result c.loop-entity-test.true c.entity-item.is
    c.loop-entity.symbols.limit c.loop-entity.symbols.names c.in_err-enter.field-0.0 (c.loop-entity.invariant.entered before first) c.in_err-enter.ensures.refused))
