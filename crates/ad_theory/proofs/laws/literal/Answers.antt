use Rattle.ad_theory.proofs.ListedLemmas.{literal_of_listed, listed_of_literal}
use Rattle.ad_theory.proofs.laws.literal.Goals as goal

pub returns : goal.returns
returns g c L same seed O M antitone equality distinct =
    (literal_of_listed L seed antitone same equality O M, listed_of_literal L seed antitone same equality O M distinct)
