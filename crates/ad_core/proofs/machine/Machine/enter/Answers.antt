-- What waits for the session is the newest edition; where nothing waits the session has entered it already.
use Rattle.std.proofs.Common.{◌≡◌, ◌<◌, List, Option, None, Some, length, get_or, set, refl, ap, sym, ◌∙◌, subst, arith}
use Rattle.std.specs.Option.{option_map}
use Rattle.ad_edition.specs.Edition.{Limited}
use Rattle.ad_edition.specs.State.{State, after_enter}
use Rattle.ad_core.specs.Kept.{edition_in, editions_in, waiting_in, numbers_of, IsKept}
use Rattle.ad_core.proofs.KeptLemmas.{IsKept-enter, waits_newest, numbers_of-enter, numbers_of-still}
use Rattle.ad_core.proofs.OwnersLemmas.{length-numbers_of, length-editions_in, length-waiting_in, waiting_at, editions_in-set, waiting_in-set}
use Rattle.ad_core.proofs.LookLemmas.{state_is}
use Rattle.ad_core.proofs.machine.Machine.enter.Goals as goal

pub invariant_of-self : goal.invariant_of-self
invariant_of-self c =
    let log = c.self.inside.log.items in
    let newest = edition_in c.self.inside.newest in
    let owners = c.self.inside.seen.items in
    let waiting = c.self.inside.waiting.items in
    let edits = c.self.inside.edits.items in
    let session = c.self.inside.session in
    let workers = c.self.inside.workers in
    let at = c.args.session in
    let below : at < length (numbers_of (editions_in owners)) = subst (λ (m : State). at < length m.entered) (sym c.self.view_is) c.requires in
    let within : at < length (editions_in owners) = omega (arith, length-numbers_of owners, length-editions_in owners) in
    let waits : get_or (waiting_in waiting) at None ≡ Some (edition_in c.in-Some.newest) =
    waiting_at waiting at c.index_mut.result.now (omega (arith, length-waiting_in waiting, c.self.invariant.waiting_count)) c.index_mut.ensures.value
    ∙ ap (option_map (λ (o : _). edition_in o)) (sym c.take.ensures.value ∙ c.in-Some.is) in
    let same : edition_in c.in-Some.newest ≡ newest = waits_newest log newest (editions_in owners) (waiting_in waiting) edits session workers at (edition_in c.in-Some.newest) c.self.invariant within waits in
    let seen_is : editions_in (set owners at c.in-Some.newest) ≡ set (editions_in owners) at newest = editions_in-set owners at c.in-Some.newest ∙ ap (λ (e : Limited). set (editions_in owners) at e) same in
    let waiting_is : waiting_in (set waiting at c.take.new.self) ≡ set (waiting_in waiting) at None = ap (λ o. waiting_in (set waiting at o)) c.take.ensures.after ∙ waiting_in-set waiting at None in
    subst (λ (seen : List Limited). IsKept log newest seen (waiting_in (set waiting at c.take.new.self)) edits session workers) (sym seen_is)
    (subst (λ (w : List (Option Limited)). IsKept log newest (set (editions_in owners) at newest) w edits session workers) (sym waiting_is) (IsKept-enter log newest (editions_in owners) (waiting_in waiting) edits session workers at c.self.invariant within))

pub returns-in-Some : goal.returns-in-Some
returns-in-Some c =
    let log = c.self.inside.log.items in
    let newest = edition_in c.self.inside.newest in
    let owners = c.self.inside.seen.items in
    let waiting = c.self.inside.waiting.items in
    let edits = c.self.inside.edits.items in
    let session = c.self.inside.session in
    let workers = c.self.inside.workers in
    let at = c.args.session in
    let below : at < length (numbers_of (editions_in owners)) = subst (λ (m : State). at < length m.entered) (sym c.self.view_is) c.requires in
    let within : at < length (editions_in owners) = omega (arith, length-numbers_of owners, length-editions_in owners) in
    let waits : get_or (waiting_in waiting) at None ≡ Some (edition_in c.in-Some.newest) =
    waiting_at waiting at c.index_mut.result.now (omega (arith, length-waiting_in waiting, c.self.invariant.waiting_count)) c.index_mut.ensures.value
    ∙ ap (option_map (λ (o : _). edition_in o)) (sym c.take.ensures.value ∙ c.in-Some.is) in
    let same : edition_in c.in-Some.newest ≡ newest = waits_newest log newest (editions_in owners) (waiting_in waiting) edits session workers at (edition_in c.in-Some.newest) c.self.invariant within waits in
    let seen_is : editions_in (set owners at c.in-Some.newest) ≡ set (editions_in owners) at newest = editions_in-set owners at c.in-Some.newest ∙ ap (λ (e : Limited). set (editions_in owners) at e) same in
    let entered : numbers_of (editions_in (set owners at c.in-Some.newest)) ≡ set (numbers_of (editions_in owners)) at (length log) = ap numbers_of seen_is ∙ numbers_of-enter log newest (editions_in owners) (waiting_in waiting) edits session workers at c.self.invariant in
    state_is log log _ _ newest.limits newest.limits session c.self.inside.looks refl entered refl ∙ ap (λ (m : State). after_enter m at) c.self.view_is

pub returns-in-None : goal.returns-in-None
returns-in-None c =
    let log = c.self.inside.log.items in
    let newest = edition_in c.self.inside.newest in
    let owners = c.self.inside.seen.items in
    let waiting = c.self.inside.waiting.items in
    let at = c.args.session in
    let below : at < length (numbers_of (editions_in owners)) = subst (λ (m : State). at < length m.entered) (sym c.self.view_is) c.requires in
    let within : at < length (editions_in owners) = omega (arith, length-numbers_of owners, length-editions_in owners) in
    let none : get_or (waiting_in waiting) at None ≡ None =
    waiting_at waiting at c.index_mut.result.now (omega (arith, length-waiting_in waiting, c.self.invariant.waiting_count)) c.index_mut.ensures.value
    ∙ ap (option_map (λ (o : _). edition_in o)) (sym c.take.ensures.value ∙ c.in-None.is) in
    let entered = numbers_of-still log newest (editions_in owners) (waiting_in waiting) c.self.inside.edits.items c.self.inside.session c.self.inside.workers at c.self.invariant within none in
    state_is log log _ _ newest.limits newest.limits c.self.inside.session c.self.inside.looks refl entered refl ∙ ap (λ (m : State). after_enter m at) c.self.view_is
