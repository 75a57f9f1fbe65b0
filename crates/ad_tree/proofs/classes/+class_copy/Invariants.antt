use Rattle.std.proofs.Common.{◌≡◌, take}
use Rattle.ad_tree.proofs.classes.+class_copy.Given as goal

abbrev pub invariant-copy_classes-loop-part : goal.invariant-copy_classes-loop-part
invariant-copy_classes-loop-part l = l.copy ≡ take l.part-index l.all
