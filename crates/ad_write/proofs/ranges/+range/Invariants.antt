-- The data ranges so far are written, and the flag says whether there was none.
use Rattle.std.proofs.Common.{◌≡◌, ◌&&◌, map, take}
use Rattle.ad_write.specs.Arguments.{behind, is_empty}
use Rattle.ad_write.specs.Canonical.{canon_range}
use Rattle.ad_write.proofs.ranges.+range.Given as goal

abbrev pub invariant-write_ranges-loop-range : goal.invariant-write_ranges-loop-range
invariant-write_ranges-loop-range g l = record {
  written : g.P.Pen.writes l.initial.pen l.pen (behind l.fn.first (map canon_range (take l.range-index l.ranges)));
  flag : l.first ≡ (l.fn.first && is_empty (take l.range-index l.ranges));
}
