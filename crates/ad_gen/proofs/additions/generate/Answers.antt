-- The declarations, and then the axioms of the classes.
use Rattle.std.proofs.Common.{◌≡◌, ◌+◌, length, arith}
use Rattle.ad_gen.proofs.AddingLemmas.{declared_long, generated_is}
use Rattle.ad_gen.proofs.additions.generate.Goals as goal

pub add_all-requires-clause-room : goal.add_all-requires-clause-room
add_all-requires-clause-room c =
    let long : length c.in_ok-batch.batch ≡ c.args.size + 1 = declared_long (c.args.size + 1) c.in_ok-batch.batch c.in_ok-batch.ensures in
    omega arith

pub returns : goal.returns
returns c = generated_is c.args.size c.in_ok-batch.batch c.add_all.new.batch c.in_ok-batch.ensures c.in_ok-add_all.ensures
