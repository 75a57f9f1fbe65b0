use Rattle.std.proofs.Common.{◌≡◌}
use Rattle.ad_flat.specs.Universes.{most_in, symbols_in}
use Rattle.bench_classes.proofs.classes.put_classes.Given as goal

abbrev pub invariant-loop-number : goal.invariant-loop-number
invariant-loop-number l = record {
  most : most_in l.universe ≡ l.limits.axioms;
  symbols : symbols_in l.universe ≡ l.limits.entities;
  limit : l.symbols.limit ≡ l.limits.entities;
}
