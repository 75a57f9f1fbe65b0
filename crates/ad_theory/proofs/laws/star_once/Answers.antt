use Rattle.ad_theory.proofs.StarLemmas.{some_listed_star, listed_star_one}
use Rattle.ad_theory.proofs.laws.star_once.Goals as goal

pub returns-clause-exists : goal.returns-clause-exists
returns-clause-exists g c B T same seed O bottom top equality = some_listed_star B T same equality seed bottom top O

pub returns-clause-one : goal.returns-clause-one
returns-clause-one g c B T seed O M N m n = listed_star_one B T seed O M N m n
