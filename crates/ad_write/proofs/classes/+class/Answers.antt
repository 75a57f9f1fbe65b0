-- A class expression is written as its variant's compound.
use Rattle.std.proofs.Common.{[], ◌∷◌, map, decimal, ap, sym}
use Rattle.std.specs.Option.{option_map, option_to_list}
use Rattle.std.proofs.lemmas.List.{append-nil}
use Rattle.ad_write.specs.Canonical.{canon_class, canon_property}
use Rattle.ad_write.proofs.Equations as eq
use Rattle.ad_lines.proofs.Joining.{two, three, five}
use Rattle.ad_write.proofs.Texts.{closed, closed_one, closed_gap, closed_three, behind_more_gap, later_more}
use Rattle.ad_write.proofs.classes.+class.Goals as goal

pub one_class-returns : goal.one_class-returns
one_class-returns g t c = three g.P.Pen.writes g.met.P.Pen.joins c.begin.ensures.written (rw c.get.ensures at c.write_class.ensures) c.put.ensures (closed_one c.args.word.now (canon_class c.args.operand.now))

pub all_classes-returns : goal.all_classes-returns
all_classes-returns g t c = three g.P.Pen.writes g.met.P.Pen.joins c.begin-first.ensures.written (rw c.as_slice.ensures at c.write_classes.ensures) c.put.ensures (closed c.args.word.now [] (map canon_class c.args.operands.now) c.begin-first.result c.begin-first.ensures.first)

pub write_classes-loop-class-preserved : goal.write_classes-loop-class-preserved
write_classes-loop-class-preserved g t c = record {
  written = three g.P.Pen.writes g.met.P.Pen.joins c.loop-class.invariant.written c.separate.ensures c.write_class.ensures (behind_more_gap canon_class c.args.first c.loop-class.first c.args.classes.now c.loop-class.class-index c.class-item.result c.loop-class-test.true c.class-item.is c.loop-class.invariant.flag);
  flag = later_more c.args.first c.args.classes.now c.loop-class.class-index c.class-item.result c.loop-class-test.true c.class-item.is;
}

pub filled-returns : goal.filled-returns
filled-returns g t c = five g.P.Pen.writes g.met.P.Pen.joins c.begin-first.ensures.written c.argument.ensures c.separate.ensures (rw c.get.ensures at c.write_class.ensures) c.put.ensures (closed_gap c.args.word.now [] (canon_property c.args.property.now) (canon_class c.args.filler.now) c.begin-first.result c.begin-first.ensures.first)

pub counted-returns : goal.counted-returns
counted-returns g t c = five g.P.Pen.writes g.met.P.Pen.joins c.begin-first.ensures.written c.argument.ensures c.argument-2.ensures c.write_filler.ensures c.put.ensures (closed_three c.args.word.now [] (decimal c.args.number.now) (canon_property c.args.property.now) (option_to_list (option_map canon_class c.args.filler.now)) c.begin-first.result c.begin-first.ensures.first)

pub write_class-returns-in-Named : goal.write_class-returns-in-Named
write_class-returns-in-Named g t c = rw (c.in-Named.is, eq.canon_class-named) c.write.ensures

pub write_class-returns-in-And : goal.write_class-returns-in-And
write_class-returns-in-And g t c = rw (c.in-And.is, eq.canon_class-intersection) c.all_classes.ensures

pub write_class-returns-in-Or : goal.write_class-returns-in-Or
write_class-returns-in-Or g t c = rw (c.in-Or.is, eq.canon_class-union) c.all_classes-in-Or.ensures

pub write_class-returns-in-Not : goal.write_class-returns-in-Not
write_class-returns-in-Not g t c = rw (c.in-Not.is, eq.canon_class-complement) c.one_class.ensures

pub write_class-returns-in-OneOf : goal.write_class-returns-in-OneOf
write_class-returns-in-OneOf g t c = rw (c.in-OneOf.is, eq.canon_class-one_of) c.list.ensures

pub write_class-returns-in-ObjSome : goal.write_class-returns-in-ObjSome
write_class-returns-in-ObjSome g t c = rw (c.in-ObjSome.is, eq.canon_class-some) c.filled.ensures

pub write_class-returns-in-ObjAll : goal.write_class-returns-in-ObjAll
write_class-returns-in-ObjAll g t c = rw (c.in-ObjAll.is, eq.canon_class-all) c.filled-in-ObjAll.ensures

pub write_class-returns-in-ObjValue : goal.write_class-returns-in-ObjValue
write_class-returns-in-ObjValue g t c = rw (c.in-ObjValue.is, eq.canon_class-value) c.two.ensures

pub write_class-returns-in-ObjSelf : goal.write_class-returns-in-ObjSelf
write_class-returns-in-ObjSelf g t c = rw (c.in-ObjSelf.is, eq.canon_class-self) c.one.ensures

pub write_class-returns-in-ObjMin : goal.write_class-returns-in-ObjMin
write_class-returns-in-ObjMin g t c = rw (c.in-ObjMin.is, eq.canon_class-min) c.counted.ensures

pub write_class-returns-in-ObjMax : goal.write_class-returns-in-ObjMax
write_class-returns-in-ObjMax g t c = rw (c.in-ObjMax.is, eq.canon_class-max) c.counted-in-ObjMax.ensures

pub write_class-returns-in-ObjExact : goal.write_class-returns-in-ObjExact
write_class-returns-in-ObjExact g t c = rw (c.in-ObjExact.is, eq.canon_class-exact) c.counted-in-ObjExact.ensures

pub write_class-returns-in-DataSome : goal.write_class-returns-in-DataSome
write_class-returns-in-DataSome g t c = rw (c.in-DataSome.is, eq.canon_class-data_some) c.two-in-DataSome.ensures

pub write_class-returns-in-DataAll : goal.write_class-returns-in-DataAll
write_class-returns-in-DataAll g t c = rw (c.in-DataAll.is, eq.canon_class-data_all) c.two-in-DataAll.ensures

pub write_class-returns-in-DataValue : goal.write_class-returns-in-DataValue
write_class-returns-in-DataValue g t c = rw (c.in-DataValue.is, eq.canon_class-data_value) c.two-in-DataValue.ensures

pub write_class-returns-in-DataMin : goal.write_class-returns-in-DataMin
write_class-returns-in-DataMin g t c = rw (c.in-DataMin.is, eq.canon_class-data_min) c.counted_data.ensures

pub write_class-returns-in-DataMax : goal.write_class-returns-in-DataMax
write_class-returns-in-DataMax g t c = rw (c.in-DataMax.is, eq.canon_class-data_max) c.counted_data-in-DataMax.ensures

pub write_class-returns-in-DataExact : goal.write_class-returns-in-DataExact
write_class-returns-in-DataExact g t c = rw (c.in-DataExact.is, eq.canon_class-data_exact) c.counted_data-in-DataExact.ensures

pub write_filler-returns-in-Some : goal.write_filler-returns-in-Some
write_filler-returns-in-Some g t c = two g.P.Pen.writes g.met.P.Pen.joins c.separate.ensures c.write_class.ensures (rw (c.in-Some.is, c.get.ensures) (ap (λ t. 32 ∷ t) (sym (append-nil (canon_class c.in-Some.class)))))
