use Rattle.ad_theory.proofs.GenuineLemmas.{numbered_nested}
use Rattle.ad_theory.proofs.laws.genuine_nested.Goals as goal

pub returns : goal.returns
returns g c u kind seed k M N S m t n j h = numbered_nested (g.U.Universe.symbols_of u) (g.U.Universe.is_local u) (g.U.Universe.is_live u) kind seed k M N S m t n j h
