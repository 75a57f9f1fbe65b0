use Rattle.ad_codes.proofs.AxiomLemmas.{code_local}
use Rattle.ad_flat.proofs.KindOfTreesLemmas.{kind_of_trees}
use Rattle.ad_flat.proofs.laws.modules_of_trees.Goals as goal

pub returns : goal.returns
returns c = λ number slots places axioms kind names seed M S placed same m. kind_of_trees number slots places axioms placed (λ number side seen. code_local side seen number) names seed same kind M S m
