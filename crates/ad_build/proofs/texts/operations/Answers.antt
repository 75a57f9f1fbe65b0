use Rattle.std.proofs.Common.{◌∙◌, length}
use Rattle.ad_build.proofs.Operations.{operations_on, fewer_left}
use Rattle.ad_build.proofs.texts.operations.Goals as goal

pub operations-preserved : goal.operations-preserved
operations-preserved c = (
  c.operations.invariant.0 ∙ operations_on c.operations.items c.operation.new.items c.operations.batch c.push.new.self c.in-Some.op c.in-Some.ensures.found c.operation.ensures.behind c.in_ok-push-in-Some.ensures.ok,
  fewer_left c.operations.items c.operation.new.items c.operations.batch c.push.new.self c.in-Some.op (length c.args.items) c.in-Some.ensures.found c.operation.ensures.behind c.in_ok-push-in-Some.ensures.ok c.operations.invariant.1,
)
