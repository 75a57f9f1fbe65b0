use Rattle.std.proofs.Common.{◌≡◌}
use Rattle.ad_flat.specs.Universes.{most_in, symbols_in}
use Rattle.ad_genuine_tests.proofs.universe.universe_of.Given as goal

abbrev pub invariant-loop-axiom : goal.invariant-loop-axiom
invariant-loop-axiom l = record {
  most : most_in l.universe ≡ 8;
  symbols : symbols_in l.universe ≡ 8;
  limit : l.symbols.limit ≡ 8;
}
