use Rattle.std.proofs.Common.{◌≡◌, length}
use Rattle.bench_extract.proofs.extraction.sizes.Given as goal

abbrev pub invariant-loop-slot : goal.invariant-loop-slot
invariant-loop-slot l = record {
  axioms : l.starred.half.limits.axioms ≡ l.limits.axioms;
  entities : l.starred.half.limits.entities ≡ l.limits.entities;
  seed : length l.seed ≡ l.limits.entities;
  out : length l.out ≡ l.limits.axioms;
  closure : length l.closure ≡ l.limits.entities;
}
