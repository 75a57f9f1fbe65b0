-- The class expressions so far are written, and the flag says whether there was none.
use Rattle.std.proofs.Common.{◌≡◌, ◌&&◌, map, take}
use Rattle.ad_write.specs.Arguments.{behind, is_empty}
use Rattle.ad_write.specs.Canonical.{canon_class}
use Rattle.ad_write.proofs.classes.+class.Given as goal

abbrev pub invariant-write_classes-loop-class : goal.invariant-write_classes-loop-class
invariant-write_classes-loop-class g l = record {
  written : g.P.Pen.writes l.initial.pen l.pen (behind l.fn.first (map canon_class (take l.class-index l.classes)));
  flag : l.first ≡ (l.fn.first && is_empty (take l.class-index l.classes));
}
