use Rattle.std.proofs.Common.{◌≡◌, length}
use Rattle.ad_module_tests.proofs.numbered.row_of.Given as goal

abbrev pub invariant-loop-entity : goal.invariant-loop-entity
invariant-loop-entity l = length l.row ≡ 32
