use Rattle.std.proofs.Common.{◌≡◌, length}
use Rattle.ad_module_tests.proofs.numbered.all_slots.Given as goal

abbrev pub invariant-loop-slot : goal.invariant-loop-slot
invariant-loop-slot l = length l.row ≡ 32
