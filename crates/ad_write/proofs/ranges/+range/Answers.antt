-- A data range is written as its variant's compound.
use Rattle.std.proofs.Common.{[], ◌∷◌, map, subst, sym, ap, ◌∙◌}
use Rattle.ad_write.specs.Canonical.{canon_range}
use Rattle.ad_write.proofs.Equations as eq
use Rattle.ad_lines.proofs.Joining.{three}
use Rattle.ad_write.proofs.Texts.{closed, closed_one, behind_more_gap, later_more}
use Rattle.ad_write.proofs.ranges.+range.Goals as goal

pub one_range-returns : goal.one_range-returns
one_range-returns g t c = three g.P.Pen.writes g.met.P.Pen.joins c.begin.ensures.written (rw c.get.ensures at c.write_range.ensures) c.put.ensures (closed_one c.args.word.now (canon_range c.args.operand.now))

pub all_ranges-returns : goal.all_ranges-returns
all_ranges-returns g t c = three g.P.Pen.writes g.met.P.Pen.joins c.begin-first.ensures.written (rw c.as_slice.ensures at c.write_ranges.ensures) c.put.ensures (closed c.args.word.now [] (map canon_range c.args.operands.now) c.begin-first.result c.begin-first.ensures.first)

pub write_ranges-loop-range-preserved : goal.write_ranges-loop-range-preserved
write_ranges-loop-range-preserved g t c = record {
  written = three g.P.Pen.writes g.met.P.Pen.joins c.loop-range.invariant.written c.separate.ensures c.write_range.ensures (behind_more_gap canon_range c.args.first c.loop-range.first c.args.ranges.now c.loop-range.range-index c.range-item.result c.loop-range-test.true c.range-item.is c.loop-range.invariant.flag);
  flag = later_more c.args.first c.args.ranges.now c.loop-range.range-index c.range-item.result c.loop-range-test.true c.range-item.is;
}

pub write_range-returns-in-Named : goal.write_range-returns-in-Named
write_range-returns-in-Named g t c = rw (c.in-Named.is, eq.canon_range-named) c.write.ensures

pub write_range-returns-in-And : goal.write_range-returns-in-And
write_range-returns-in-And g t c = rw (c.in-And.is, eq.canon_range-intersection) c.all_ranges.ensures

pub write_range-returns-in-Or : goal.write_range-returns-in-Or
write_range-returns-in-Or g t c = rw (c.in-Or.is, eq.canon_range-union) c.all_ranges-in-Or.ensures

pub write_range-returns-in-Not : goal.write_range-returns-in-Not
write_range-returns-in-Not g t c = rw (c.in-Not.is, eq.canon_range-complement) c.one_range.ensures

pub write_range-returns-in-OneOf : goal.write_range-returns-in-OneOf
write_range-returns-in-OneOf g t c = rw (c.in-OneOf.is, eq.canon_range-one_of) c.list.ensures

pub write_range-returns-in-Restriction : goal.write_range-returns-in-Restriction
write_range-returns-in-Restriction g t c = rw (c.in-Restriction.is, eq.canon_range-restriction) c.one_and_list.ensures
