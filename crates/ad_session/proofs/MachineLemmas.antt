-- What a talk, and an edit behind it, do to a machine.
use Rattle.std.proofs.Common.{◌≡◌, ℕ, ◌≤◌, IsFalse, List, [], ◌∷◌, None, Some, Ok, Err, length, take, get_or, set, refl, sym, ◌∙◌, ap, subst, arith}
use Rattle.std.proofs.lemmas.List.{length-take, set-set, set-get_or}
use Rattle.ad_request.specs.declared.request.Request.{Request}
use Rattle.ad_request.specs.declared.request.Request.TheVariants.{Load, Edit, Module, Genuine, Atoms, Atom, Export, Stat, Quit}
use Rattle.ad_request.specs.Requests.{expected_of}
use Rattle.ad_items.specs.Items.{Item}
use Rattle.ad_tree.specs.declared.edits.Op.{Op}
use Rattle.ad_edition.specs.Limit.{is_moved}
use Rattle.ad_edition.specs.Log.{Logged, replay}
use Rattle.ad_edition.specs.Sight.{Sight, Footing}
use Rattle.ad_edition.specs.State.{State, IsMachine, after_look, after_commit, first_passed, IsRefusalOf, receipt_after}
use Rattle.ad_edition.specs.declared.receipts.Receipt.{Receipt}
use Rattle.ad_edition.specs.declared.receipts.Refused.{Refused}
use Rattle.ad_edition.specs.declared.receipts.Refused.TheVariants as refusals
use Rattle.ad_core.specs.Sights.{sight_of, footing_of}
use Rattle.ad_core.proofs.LookLemmas.{footing_tells}
use Rattle.ad_reply.specs.Replies.{Reply, IsReplyOn}
use Rattle.ad_session.specs.Asked.{TakesMemory, SpellsBatch}
use Rattle.ad_session.specs.Steps.{Steps}
use Rattle.ad_session.specs.LookAnswers as says
use Rattle.ad_session.specs.LookAnswers.{LookAnswers, Looks}
use Rattle.ad_session.specs.Machines as machines
use Rattle.ad_session.specs.Machines.{MachineAnswers, MachineRun}
use Rattle.ad_session.specs.Turns.{outcome_reply}

-- looks that failed stay counted
says_lapses : (depth : ℕ) (footing : Footing) (old new : Sight) (i : Item) (reply : Reply) → LookAnswers depth footing old i reply new → old.lapses ≤ new.lapses
says_lapses depth footing old new i reply (says.unasked asked is seen) = omega (arith, ap (λ (s : Sight). s.lapses) seen)
says_lapses depth footing old new i reply (says.unread r cause asked known unread is seen) = omega (arith, ap (λ (s : Sight). s.lapses) seen)
says_lapses depth footing old new i reply (says.queried r asked looks is) = omega (arith, looks.lapses)
says_lapses depth footing old new i reply (says.wanting r asked takes is seen) = omega (arith, ap (λ (s : Sight). s.lapses) seen)
says_lapses depth footing old new i reply (says.lapsed r asked query enters rose is) = enters.lapses
says_lapses depth footing old new i reply (says.barred r asked query seen rose later is) = later

run_lapses : (depth : ℕ) (footing : Footing) (old new : Sight) (items : List Item) (replies : List Reply) → Steps (LookAnswers depth footing) old items replies new → old.lapses ≤ new.lapses
run_lapses depth footing old new [] [] run = omega (arith, ap (λ (s : Sight). s.lapses) run)
run_lapses depth footing old new [] (r ∷ replies) run = absurd run
run_lapses depth footing old new (i ∷ items) [] run = absurd run
run_lapses depth footing old new (i ∷ items) (r ∷ replies) run = omega (arith, says_lapses depth footing old run.0 i r run.1, run_lapses depth footing run.0 new items replies run.2)

-- a machine whose session that looks has seen this
abbrev pub machine_at : State → Sight → State
machine_at machine sight = record machine { entered = set machine.entered machine.session (length sight.entered); looks = sight.looks }

looked_at : (machine : State) (old new : Sight) → Looks (footing_of machine) old new → machine_at machine new ≡ after_look (machine_at machine old)
looked_at machine old new looks =
    let entered : set machine.entered machine.session (length new.entered) ≡ set (set machine.entered machine.session (length old.entered)) machine.session (length machine.log) =
    ap (λ (log : List Logged). set machine.entered machine.session (length log)) looks.reaches ∙ sym (set-set machine.entered machine.session (length old.entered) (length machine.log)) in
    λ j. record { log = machine.log; entered = entered j; limits = machine.limits; session = machine.session; looks = looks.enters.looks j }

-- a reply on the whole log, without a look that failed
says_machine : (machine : State) (old new : Sight) (i : Item) (reply : Reply) → LookAnswers machine.limits.depth (footing_of machine) old i reply new → new.lapses ≡ 0 → MachineAnswers (machine_at machine old) i reply (machine_at machine new)
says_machine machine old new i reply (says.unasked asked is seen) sure = machines.unasked asked is (ap (λ (s : Sight). machine_at machine s) seen)
says_machine machine old new i reply (says.unread r cause asked known unread is seen) sure = machines.unread r cause asked known unread is (ap (λ (s : Sight). machine_at machine s) seen)
says_machine machine old new i reply (says.queried r asked looks is) sure =
    machines.queried r asked (subst (λ (log : List Logged). IsReplyOn machine.limits.depth r i.payload (length log) (replay log) reply) looks.reaches is) (looked_at machine old new looks)
says_machine machine old new i reply (says.wanting r asked takes is seen) sure = machines.wanting r asked takes is (ap (λ (s : Sight). machine_at machine s) seen)
says_machine machine old new i reply (says.lapsed r asked query enters rose is) sure = absurd (omega (arith, rose, sure))
says_machine machine old new i reply (says.barred r asked query seen rose later is) sure = absurd (omega (arith, rose, sure))

talk_machine : (machine : State) (old new : Sight) (items : List Item) (replies : List Reply) → Steps (LookAnswers machine.limits.depth (footing_of machine)) old items replies new → new.lapses ≡ 0 → MachineRun (machine_at machine old) items replies (machine_at machine new)
talk_machine machine old new [] [] run sure = ap (λ (s : Sight). machine_at machine s) run
talk_machine machine old new [] (r ∷ replies) run sure = absurd run
talk_machine machine old new (i ∷ items) [] run sure = absurd run
talk_machine machine old new (i ∷ items) (r ∷ replies) run sure =
    let fine : run.0.lapses ≡ 0 = omega (arith, run_lapses machine.limits.depth (footing_of machine) run.0 new items replies run.2, sure) in
    (machine_at machine run.0, says_machine machine old run.0 i r run.1 fine, talk_machine machine run.0 new items replies run.2 sure)

-- how much of the log is entered
entered_count : (machine : State) → IsMachine machine → length (take (get_or machine.entered machine.session 0) machine.log) ≡ get_or machine.entered machine.session 0
entered_count machine is = omega (arith, length-take (get_or machine.entered machine.session 0) machine.log, is.within machine.session is.looking)

at_itself : (machine : State) → IsMachine machine → machine_at machine (sight_of machine) ≡ machine
at_itself machine is =
    let entered : set machine.entered machine.session (length (take (get_or machine.entered machine.session 0) machine.log)) ≡ machine.entered =
    ap (λ n. set machine.entered machine.session n) (entered_count machine is) ∙ set-get_or machine.entered machine.session 0 in
    λ j. record { log = machine.log; entered = entered j; limits = machine.limits; session = machine.session; looks = machine.looks }

-- what looks stand on, the limits and what the session has seen make the machine
at_end : (old new : State) → IsMachine new → footing_of new ≡ footing_of old → new.limits ≡ old.limits → machine_at old (sight_of new) ≡ new
at_end old new is footing limits =
    let tells = footing_tells old new footing in
    let count = get_or new.entered new.session 0 in
    let entered : set old.entered old.session (length (take (get_or new.entered new.session 0) new.log)) ≡ new.entered =
    ap (λ n. set old.entered old.session n) (entered_count new is)
    ∙ sym (set-set old.entered old.session 0 count)
    ∙ ap (λ xs. set xs old.session count) (sym tells.2)
    ∙ ap (λ k. set (set new.entered new.session 0) k count) (sym tells.0)
    ∙ set-set new.entered new.session 0 count
    ∙ set-get_or new.entered new.session 0 in
    λ j. record { log = sym tells.1 j; entered = entered j; limits = sym limits j; session = sym tells.0 j; looks = new.looks }

-- a talk over a machine, as a run of it
pub talked_run : (old new : State) (items : List Item) (replies : List Reply) → IsMachine old → IsMachine new → footing_of new ≡ footing_of old → new.limits ≡ old.limits → Steps (LookAnswers old.limits.depth (footing_of old)) (sight_of old) items replies (sight_of new) → MachineRun old items replies new
talked_run old new items replies before after footing limits run =
    subst (λ (m : State). MachineRun m items replies new) (at_itself old before)
    (subst (λ (m : State). MachineRun (machine_at old (sight_of old)) items replies m) (at_end old new after footing limits) (talk_machine old (sight_of old) (sight_of new) items replies run refl))

batch_takes : (depth : ℕ) (request : Request) (payload : List ℕ) (ops : List Op) → SpellsBatch depth request payload ops → TakesMemory request
batch_takes depth (Load n) payload ops s = tt
batch_takes depth (Edit n expected) payload ops s = tt
batch_takes depth (Module k n) payload ops s = absurd s
batch_takes depth (Genuine k n) payload ops s = absurd s
batch_takes depth (Atoms k) payload ops s = absurd s
batch_takes depth (Atom k n) payload ops s = absurd s
batch_takes depth Export payload ops s = absurd s
batch_takes depth Stat payload ops s = absurd s
batch_takes depth Quit payload ops s = absurd s

-- an accepted edit of a machine
pub commit_accepted : (machine : State) (request : Request) (i : Item) (ops : List Op) (receipt : Receipt) (new : State) → i.asked ≡ Some request → SpellsBatch machine.limits.depth request i.payload ops → IsFalse (is_moved (expected_of request) (length machine.log)) → first_passed machine ops ≡ None → receipt ≡ receipt_after machine ops → new ≡ after_commit machine machine.session ops
    → MachineAnswers machine i (outcome_reply (Ok receipt)) new
commit_accepted machine request i ops receipt new asked spelled expected free is after =
    machines.accepted request ops asked spelled expected free (ap (λ (r : Receipt). outcome_reply (Ok r)) is) after

-- a refused one
pub commit_refused : (machine : State) (request : Request) (i : Item) (ops : List Op) (cause : Refused) (new : State) → i.asked ≡ Some request → SpellsBatch machine.limits.depth request i.payload ops → IsRefusalOf machine (expected_of request) ops cause → new ≡ machine
    → MachineAnswers machine i (outcome_reply (Err cause)) new
commit_refused machine request i ops (refusals.Limit edition which count) new asked spelled refused same =
    machines.limited_edit request ops which count asked spelled refused.0 refused.1.1 (ap (λ n. outcome_reply (Err (refusals.Limit n which count))) refused.1.0) same
commit_refused machine request i ops (refusals.Moved edition) new asked spelled refused same =
    machines.moved_edit request ops asked spelled refused.1 (ap (λ n. outcome_reply (Err (refusals.Moved n))) refused.0) same
commit_refused machine request i ops refusals.Memory new asked spelled refused same =
    machines.wanting request asked (batch_takes machine.limits.depth request i.payload ops spelled) refl same
