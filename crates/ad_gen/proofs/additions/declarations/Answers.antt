-- One more declaration.
use Rattle.std.proofs.Common.{◌≡◌, length, arith}
use Rattle.ad_gen.proofs.AddingLemmas.{declared_long, declared_more}
use Rattle.ad_gen.proofs.additions.declarations.Goals as goal

pub add-requires : goal.add-requires
add-requires c =
    let long : length c.loop-number.batch ≡ c.loop-number.number = declared_long c.loop-number.number c.loop-number.batch c.loop-number.invariant in
    omega arith

pub loop-number-preserved : goal.loop-number-preserved
loop-number-preserved c =
    declared_more c.loop-number.number c.loop-number.batch c.add.new.batch c.in_ok-declaration.field-0 c.loop-number.invariant c.in_ok-declaration.ensures c.in_ok-add.ensures
