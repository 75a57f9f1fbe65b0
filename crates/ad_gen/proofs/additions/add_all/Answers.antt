-- The axioms of one more class.
use Rattle.std.proofs.Common.{◌+◌, ◌*◌, ◌≤◌, length, arith}
use Rattle.ad_gen.proofs.AddingLemmas.{added_few, added_more}
use Rattle.ad_gen.proofs.additions.add_all.Goals as goal

pub add_axioms-requires : goal.add_axioms-requires
add_axioms-requires c =
    let few : length c.loop-before.batch ≤ length c.args.batch.now + 3 * c.loop-before.before =
    added_few c.loop-before.before c.args.batch.now c.loop-before.batch c.loop-before.invariant in
    omega arith

pub loop-before-preserved : goal.loop-before-preserved
loop-before-preserved c = added_more c.loop-before.before c.args.batch.now c.loop-before.batch c.add_axioms.new.batch c.loop-before.invariant c.in_ok-add_axioms.ensures
