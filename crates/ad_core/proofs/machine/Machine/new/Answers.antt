-- Each part is as in the first machine.
use Rattle.std.proofs.Common.{◌≡◌, replicate, ap, ◌∙◌}
use Rattle.ad_edition.specs.Edition.{Limited, first_of_all, limited_of}
use Rattle.ad_core.specs.Kept.{edition_in, editions_in, numbers_of}
use Rattle.ad_core.proofs.KeptLemmas.{IsKept-first, numbers_of-first}
use Rattle.ad_core.proofs.LookLemmas.{state_is}
use Rattle.ad_core.proofs.machine.Machine.new.Goals as goal

pub invariant_of-result : goal.invariant_of-result
invariant_of-result c =
    let first : edition_in c.in_ok-newest.newest ≡ first_of_all c.args.limits = ap limited_of c.in_ok-newest.ensures.ok ∙ c.in_ok-empty.ensures in
    rw (c.new-2.ensures.items, c.in_ok-seen.ensures, c.in_ok-waiting.ensures, c.in_ok-edits.ensures.items_if_clones_equal (λ y e. e), first) (IsKept-first c.args.limits c.args.sessions c.args.workers c.requires.sessions.0 c.requires.sessions.1 c.requires.workers)

pub returns : goal.returns
returns c =
    let first : edition_in c.in_ok-newest.newest ≡ first_of_all c.args.limits = ap limited_of c.in_ok-newest.ensures.ok ∙ c.in_ok-empty.ensures in
    let entered : numbers_of (editions_in c.in_ok-seen.seen.items) ≡ replicate c.args.sessions 0 = ap numbers_of (c.in_ok-seen.ensures ∙ ap (λ (e : Limited). replicate c.args.sessions e) first) ∙ numbers_of-first c.args.limits c.args.sessions in
    state_is _ _ _ _ _ _ 0 0 c.new-2.ensures.items entered (ap (λ (e : Limited). e.limits) first)
