use Rattle.ad_theory.proofs.StarLemmas.{rounds_do_end, rounds_end}
use Rattle.ad_theory.proofs.laws.alternation.Goals as goal

pub returns-clause-ends : goal.returns-clause-ends
returns-clause-ends g c B T same seed O bottom top equality = rounds_do_end B T same equality seed bottom top O

pub returns-clause-star : goal.returns-clause-star
returns-clause-star g c B T same seed O X M bottom equality rounds m n = rounds_end B T same equality seed bottom rounds m n
