use Rattle.std.proofs.Common.{◌≡◌, take}
use Rattle.ad_tree.proofs.edits.copy_ops.Given as goal

abbrev pub invariant-loop-part : goal.invariant-loop-part
invariant-loop-part l = l.copy ≡ take l.part-index l.parts
