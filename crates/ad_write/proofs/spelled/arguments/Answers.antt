-- One argument more, and the flag falls.
use Rattle.ad_lines.proofs.Joining.{two}
use Rattle.ad_write.proofs.Texts.{behind_more, later_more}
use Rattle.ad_write.proofs.spelled.arguments.Goals as goal

pub loop-item-preserved : goal.loop-item-preserved
loop-item-preserved g c = record {
  written = two g.P.Pen.writes g.met.P.Pen.joins c.loop-item.invariant.written c.argument.ensures (behind_more g.T.Spelled.spelling c.args.first c.loop-item.first c.args.items.now c.loop-item.item-index c.item-item.result c.loop-item-test.true c.item-item.is c.loop-item.invariant.flag);
  flag = later_more c.args.first c.args.items.now c.loop-item.item-index c.item-item.result c.loop-item-test.true c.item-item.is;
}
