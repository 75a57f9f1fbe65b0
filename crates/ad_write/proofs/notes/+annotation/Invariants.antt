-- The annotations so far are written, and the flag says whether there was none.
use Rattle.std.proofs.Common.{◌≡◌, ◌&&◌, map, take}
use Rattle.ad_write.specs.Arguments.{behind, is_empty}
use Rattle.ad_write.specs.Canonical.{canon_annotation}
use Rattle.ad_write.proofs.notes.+annotation.Given as goal

abbrev pub invariant-write_annotations-loop-note : goal.invariant-write_annotations-loop-note
invariant-write_annotations-loop-note g l = record {
  written : g.P.Pen.writes l.initial.pen l.pen (behind l.fn.first (map canon_annotation (take l.note-index l.notes)));
  flag : l.first ≡ (l.fn.first && is_empty (take l.note-index l.notes));
}
