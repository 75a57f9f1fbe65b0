-- The type keeps it of each session's edition.
use Rattle.std.proofs.Common.{◌≡◌, ◌<◌, length, take, get_or, ap, sym, ◌∙◌, subst, arith}
use Rattle.ad_edition.specs.Edition.{Limited, IsEditionOf, limited_of}
use Rattle.ad_edition.specs.State.{State, entered_by}
use Rattle.ad_core.specs.Kept.{edition_in, editions_in, numbers_of}
use Rattle.ad_core.proofs.OwnersLemmas.{edition_at, length-numbers_of}
use Rattle.ad_core.proofs.machine.Machine.seen.Goals as goal

pub returns : goal.returns
returns c =
    let owners = c.self.inside.seen.items in
    let newest = edition_in c.self.inside.newest in
    let log = c.self.inside.log.items in
    let session = c.args.session in
    let below : session < length (numbers_of (editions_in owners)) = subst (λ (m : State). session < length m.entered) (sym c.self.view_is) c.requires in
    let found : get_or (editions_in owners) session newest ≡ limited_of c.deref.result.now = edition_at owners session c.index.result.now (omega (arith, length-numbers_of owners)) c.index.ensures newest ∙ ap limited_of (sym c.deref.ensures) in
    let is : IsEditionOf newest.limits (take (get_or (numbers_of (editions_in owners)) session 0) log) (limited_of c.deref.result.now) = subst (λ (e : Limited). IsEditionOf newest.limits (take (get_or (numbers_of (editions_in owners)) session 0) log) e) found (c.self.invariant.editions.seen_is session newest below) in
    subst (λ (m : State). IsEditionOf m.limits (entered_by m session) (limited_of c.deref.result.now)) c.self.view_is is
