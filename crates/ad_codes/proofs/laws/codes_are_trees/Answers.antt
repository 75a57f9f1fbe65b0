use Rattle.ad_codes.proofs.AxiomLemmas.{code_local}
use Rattle.ad_codes.proofs.SignatureLemmas.{code_stays, code_within}
use Rattle.ad_codes.proofs.laws.codes_are_trees.Goals as goal

pub returns-clause-local : goal.returns-clause-local
returns-clause-local c number side seen = code_local side seen number

pub returns-clause-symbols : goal.returns-clause-symbols
returns-clause-symbols c = code_within

pub returns-clause-stay : goal.returns-clause-stay
returns-clause-stay c = code_stays
