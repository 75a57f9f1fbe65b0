-- It enters the whole log.
use Rattle.std.proofs.Common.{refl, ap, sym, ◌∙◌, subst}
use Rattle.ad_edition.specs.Sight.{Enters}
use Rattle.ad_edition.specs.State.{State, entered_by}
use Rattle.ad_core.specs.Sights.{sight_of, footing_of}
use Rattle.ad_core.proofs.LookLemmas.{Enters-look, entered_by-look, footing_of-look}
use Rattle.ad_core.proofs.look.MachineLook.look.Goals as goal

pub returns-clause-looks : goal.returns-clause-looks
returns-clause-looks c =
    let machine = c.args.self.now in
    (subst (λ (new : State). Enters (sight_of machine) (sight_of new)) (sym c.look_on.ensures.after) (Enters-look machine c.look_on.ensures.is_log c.look_on.ensures.looking), refl)

pub returns-clause-reaches : goal.returns-clause-reaches
returns-clause-reaches c is =
    let machine = c.args.self.now in
    ap (λ (m : State). entered_by m m.session) c.look_on.ensures.after ∙ entered_by-look machine c.look_on.ensures.looking

pub returns-clause-footing : goal.returns-clause-footing
returns-clause-footing c = ap footing_of c.look_on.ensures.after ∙ footing_of-look c.args.self.now
