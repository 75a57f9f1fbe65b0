use Rattle.std.proofs.Common.{◌≡◌, ◌+◌, ◌-◌, ◌≤◌, length, subst, sym, arith}
use Rattle.ad_lex.specs.declared.token.Mark.TheVariants as mark
use Rattle.ad_check.proofs.Nested.{left_counts, right_counts, other_counts}
use Rattle.ad_check.proofs.depth.nesting.Goals as goal

pub loop-at-preserved-in-Left : goal.loop-at-preserved-in-Left
loop-at-preserved-in-Left c = record {
  within = omega (arith, c.loop-at.invariant.within);
  few = omega (arith, c.loop-at.invariant.few, c.loop-at-test.true);
  counted = λ text. left_counts text c.list-list.result.now c.loop-at.at c.loop-at.depth (record { from = 0; to = 0; mark = mark.Left }) c.loop-at-test.true c.loop-at.invariant.within c.in-Left.is (c.loop-at.invariant.counted text);
}

pub loop-at-preserved-in-Right : goal.loop-at-preserved-in-Right
loop-at-preserved-in-Right c = record {
  within = omega (arith, c.loop-at.invariant.within);
  few = omega (arith, c.loop-at.invariant.few, c.saturating_sub-depth.ensures);
  counted = λ text. rw c.saturating_sub-depth.ensures (right_counts text c.list-list.result.now c.loop-at.at c.loop-at.depth (record { from = 0; to = 0; mark = mark.Left }) c.loop-at-test.true c.loop-at.invariant.within c.in-Right.is (c.loop-at.invariant.counted text));
}

pub loop-at-preserved : goal.loop-at-preserved
loop-at-preserved c = record {
  within = omega (arith, c.loop-at.invariant.within);
  few = omega (arith, c.loop-at.invariant.few);
  counted = λ text. other_counts text c.list-list.result.now c.loop-at.at c.loop-at.depth (record { from = 0; to = 0; mark = mark.Left }) c.loop-at-test.true c.loop-at.invariant.within c.in_default.not-Left c.in_default.not-Right (c.loop-at.invariant.counted text);
}
