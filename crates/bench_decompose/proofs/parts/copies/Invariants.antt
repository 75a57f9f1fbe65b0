use Rattle.std.proofs.Common.{◌≡◌}
use Rattle.bench_decompose.proofs.parts.copies.Given as goal

abbrev pub invariant-loop-i : goal.invariant-loop-i
invariant-loop-i l = l.symbols.limit ≡ l.limits.entities
