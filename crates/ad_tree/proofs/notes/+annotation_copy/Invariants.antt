use Rattle.std.proofs.Common.{◌≡◌, take}
use Rattle.ad_tree.proofs.notes.+annotation_copy.Given as goal

abbrev pub invariant-copy_annotations-loop-part : goal.invariant-copy_annotations-loop-part
invariant-copy_annotations-loop-part l = l.copy ≡ take l.part-index l.all
