use Rattle.std.proofs.Common.{sym, ◌∙◌}
use Rattle.ad_tree.proofs.Equality.{noted_eq-is}
use Rattle.ad_tree.proofs.axioms.Noted.same.Goals as goal

pub returns : goal.returns
returns c =
    let decides = noted_eq-is c.args.self.now c.args.other.now in
    (λ h. decides.0 (sym c.eq.ensures ∙ h), λ e. c.eq.ensures ∙ decides.1 e)
