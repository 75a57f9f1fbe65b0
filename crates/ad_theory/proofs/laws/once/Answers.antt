use Rattle.ad_theory.proofs.ListedLemmas.{some_listed, listed_one}
use Rattle.ad_theory.proofs.laws.once.Goals as goal

pub returns-clause-exists : goal.returns-clause-exists
returns-clause-exists g c L same seed O antitone equality = some_listed L seed antitone same equality O

pub returns-clause-one : goal.returns-clause-one
returns-clause-one g c L seed O M N m n = listed_one L seed O M N m n
