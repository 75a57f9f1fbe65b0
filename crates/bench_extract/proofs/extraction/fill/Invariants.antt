use Rattle.std.proofs.Common.{◌≡◌, length}
use Rattle.bench_extract.proofs.extraction.fill.Given as goal

abbrev pub invariant-loop-symbol : goal.invariant-loop-symbol
invariant-loop-symbol l = length l.row ≡ length l.initial.row
