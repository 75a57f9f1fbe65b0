-- The log has one more entry, and its edition is the newest one.
use Rattle.std.proofs.Common.{◌≡◌, ◌+◌, ◌<◌, ◌≤◌, ◌∷◌, ◌++◌, [], Some, length, replicate, ap, sym, ◌∙◌, subst, arith}
use Rattle.ad_edition.specs.Edition.{Limited, next_edition}
use Rattle.ad_edition.specs.State.{State, newest_of}
use Rattle.ad_core.specs.Kept.{edition_in, editions_in, waiting_in, numbers_of}
use Rattle.ad_core.proofs.EditionsLemmas.{edition_is}
use Rattle.ad_core.proofs.KeptLemmas.{edits_below, newest_number, IsKept-publish}
use Rattle.ad_core.proofs.OwnersLemmas.{length-numbers_of, length-editions_in}
use Rattle.ad_core.proofs.machine.Machine.publish.Goals as goal

pub overflow_add-sequence : goal.overflow_add-sequence
overflow_add-sequence g c =
    let newest = edition_in c.self.inside.newest in
    let owners = c.self.inside.seen.items in
    let at = c.args.session in
    let below : at < length (numbers_of (editions_in owners)) = subst (λ (m : State). at < length m.entered) (sym c.self.view_is) c.requires.session in
    let within : at < length (editions_in owners) = omega (arith, length-numbers_of owners, length-editions_in owners) in
    let fewer : c.index.result.now ≤ newest.shown.number = edits_below c.self.inside.log.items newest (editions_in owners) (waiting_in c.self.inside.waiting.items) c.self.inside.edits.items c.self.inside.session c.self.inside.workers at c.index.result.now c.self.invariant within c.index.ensures in
    let number : newest.shown.number ≡ length c.self.inside.log.items = newest_number c.self.inside.log.items newest (editions_in owners) (waiting_in c.self.inside.waiting.items) c.self.inside.edits.items c.self.inside.session c.self.inside.workers c.self.invariant in
    let log : length c.self.inside.log.items ≡ length c.args.self.now.log = ap (λ (m : State). length m.log) c.self.view_is in
    let next : c.args.draft.next.shown.number ≡ length c.args.self.now.log + 1 = ap (λ (e : Limited). e.shown.number) c.requires.next in
    omega (arith, fewer, number, log, next, c.requires.fits)

pub invariant_of-self-2 : goal.invariant_of-self-2
invariant_of-self-2 g c =
    let log = c.self.inside.log.items in
    let newest = edition_in c.self.inside.newest in
    let owners = c.self.inside.seen.items in
    let at = c.args.session in
    let batch = c.args.draft.batch in
    let below : at < length (numbers_of (editions_in owners)) = subst (λ (m : State). at < length m.entered) (sym c.self.view_is) c.requires.session in
    let within : at < length (editions_in owners) = omega (arith, length-numbers_of owners, length-editions_in owners) in
    let log_is : c.push.new.self.items ≡ log ++ c.take_entry-entry.result ∷ [] = c.in_ok-push.ensures.items in
    let next : edition_in c.in_ok-newest.newest ≡ next_edition (newest_of c.args.self.now) batch = c.in_ok-newest.ensures.edition ∙ c.take_entry-entry.ensures.next ∙ c.requires.next in
    let before : newest_of c.args.self.now ≡ newest = ap newest_of (sym c.self.view_is) ∙ sym (edition_is newest.limits log newest c.self.invariant.editions.newest_is) in
    let count : c.sessions.result ≡ length (editions_in owners) = c.sessions.ensures.count ∙ ap (λ (m : State). length m.entered) (sym c.self.view_is) ∙ length-numbers_of owners ∙ sym (length-editions_in owners) in
    IsKept-publish log c.push.new.self.items newest (edition_in c.in_ok-newest.newest) (editions_in owners) (waiting_in c.self.inside.waiting.items) (waiting_in c.in_ok-newest.waiting.items) c.self.inside.edits.items c.self.inside.session c.self.inside.workers at c.index.result.now c.sessions.result batch c.self.invariant within c.index.ensures
    (log_is ∙ ap (λ (entry : _). log ++ entry ∷ []) c.take_entry-entry.ensures.entry)
    (next ∙ ap (λ (e : Limited). next_edition e batch) before)
    count
    (c.in_ok-newest.ensures.waiting ∙ ap (λ (e : Limited). replicate c.sessions.result (Some e)) (sym c.in_ok-newest.ensures.edition))
