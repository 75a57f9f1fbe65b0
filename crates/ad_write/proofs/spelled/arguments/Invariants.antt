-- The arguments so far are written, and the flag says whether there was none.
use Rattle.std.proofs.Common.{◌≡◌, ◌&&◌, map, take}
use Rattle.ad_write.specs.Arguments.{behind, is_empty}
use Rattle.ad_write.proofs.spelled.arguments.Given as goal

abbrev pub invariant-loop-item : goal.invariant-loop-item
invariant-loop-item g l = record {
  written : g.P.Pen.writes l.initial.pen l.pen (behind l.fn.first (map g.T.Spelled.spelling (take l.item-index l.items)));
  flag : l.first ≡ (l.fn.first && is_empty (take l.item-index l.items));
}
