use Rattle.ad_flat.proofs.ListLemmas.{bound_more, least_more}
use Rattle.ad_flat.proofs.lists.bound_of.Goals as goal

pub loop-symbol-preserved : goal.loop-symbol-preserved
loop-symbol-preserved c = record {
  above = bound_more c.args.symbols.now c.loop-symbol.symbol-index c.loop-symbol.bound c.above-bound.result c.loop-symbol-test.true c.loop-symbol.invariant.above c.above-bound.ensures.bound c.above-bound.ensures.symbol;
  least = least_more c.args.symbols.now c.loop-symbol.symbol-index c.loop-symbol.bound c.above-bound.result c.loop-symbol-test.true c.loop-symbol.invariant.least c.above-bound.ensures.least;
}
