use Rattle.std.proofs.Common.{◌≤◌, length}
use Rattle.ad_module_tests.proofs.modules.logical.Given as goal

abbrev pub invariant-loop-op : goal.invariant-loop-op
invariant-loop-op l = length l.axioms ≤ 32
