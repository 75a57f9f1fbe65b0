use Rattle.std.proofs.Common.{◌∙◌}
use Rattle.std.proofs.lemmas.Result.{err_from_is_err_and}
use Rattle.ad_flat.proofs.AddingLemmas.{entered_number, named_more, entered_kept, entered_other, none_at, refused_at}
use Rattle.ad_flat.proofs.adding.enter_all.Goals as goal

pub loop-entity-preserved : goal.loop-entity-preserved
loop-entity-preserved c =
    let before = c.loop-entity.symbols in
    let after = c.enter.new.self in
    let entered = c.in_ok-enter.ensures.entered in
    let entity = c.entity-item.result in
    record {
      named = named_more c.args.entities.now c.loop-entity.entity-index entity before.names after.names c.in_ok-enter.field-0 c.loop-entity-test.true c.entity-item.is c.loop-entity.invariant.named
          (entered_kept before.limit before.names entity after.names c.in_ok-enter.field-0 entered) (entered_number before.limit before.names entity after.names c.in_ok-enter.field-0 entered);
      only = λ e none. entered_other before.limit before.names entity after.names c.in_ok-enter.field-0 entered e
          (none_at c.args.entities.now c.loop-entity.entity-index entity e c.loop-entity-test.true c.entity-item.is none) ∙ c.loop-entity.invariant.only e none;
      kept = λ e n h. entered_kept before.limit before.names entity after.names c.in_ok-enter.field-0 entered e n (c.loop-entity.invariant.kept e n h);
      limit = c.in_ok-enter.ensures.limit ∙ c.loop-entity.invariant.limit;
    }

pub returns-in_err-enter-clause-refused : goal.returns-in_err-enter-clause-refused
returns-in_err-enter-clause-refused c =
    let before = c.loop-entity.symbols in
    let p = err_from_is_err_and c.from_residual.result c.from_residual.ensures.1 in
    rw (p.1, p.2) (refused_at c.args.entities.now c.loop-entity.entity-index c.entity-item.result before.limit c.args.symbols.now.limit before.names c.enter.new.self.names c.in_err-enter.field-0.0
    c.loop-entity-test.true c.entity-item.is c.in_err-enter.ensures.refused c.loop-entity.invariant.limit c.in_err-enter.ensures.err)
