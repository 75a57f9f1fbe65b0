use Rattle.ad_theory.proofs.GenuineLemmas.{own}
use Rattle.ad_theory.proofs.laws.tautologies.Goals as goal

pub returns : goal.returns
returns g c u kind i M live m = own (g.U.Universe.symbols_of u) (g.U.Universe.is_local u) (g.U.Universe.is_live u) (g.met.U.Universe.antitone u) kind i M live m
