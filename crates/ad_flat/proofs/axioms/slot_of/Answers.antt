use Rattle.std.proofs.Common.{IsTrue, ◌∙◌, subst}
use Rattle.ad_theory.specs.Numbers.{among}
use Rattle.ad_cells.specs.Codes.{symbols_of}
use Rattle.ad_codes.proofs.SignatureLemmas.{code_within}
use Rattle.ad_flat.proofs.axioms.slot_of.Goals as goal

pub new-requires : goal.new-requires
new-requires g c = λ n t. c.in_ok-symbols.ensures.members n ∙ code_within (g.N.Naming.number_of c.args.names.now) c.args.noted.now.axiom n
    (subst (λ cells. IsTrue (among (symbols_of cells) n)) c.in_ok-coded.ensures.cells t)
