-- The run of a session of a machine is a run of a session, and what it has entered grows.
use Rattle.std.proofs.Common.{◌≡◌, inl, inr, ◌+◌, List, [], ◌∷◌, ◌++◌, length, get_or, set, refl, sym, ◌∙◌, ap, subst, arith, append_assoc}
use Rattle.std.proofs.lemmas.Bool.{cases_eq}
use Rattle.std.proofs.lemmas.List.{append-nil, take-append-le, length_push, length-set, set-set, get_or-set_same, get_or-set_other}
use Rattle.std.specs.List.{AllByRecursion}
use Rattle.ad_base.specs.declared.limits.Limits.{Limits}
use Rattle.ad_items.specs.Items.{Item}
use Rattle.ad_tree.specs.declared.edits.Op.{Op}
use Rattle.ad_edition.specs.Log.{Logged, IsLog, count_of, next_entry, replay}
use Rattle.ad_edition.specs.Sight.{IsFront, tell}
use Rattle.ad_edition.specs.State.{State, IsMachine, ticket_of, entered_by, after_look, after_commit}
use Rattle.ad_edition.proofs.LogLemmas.{count_of-append, count_of-one, GoesOn-push}
use Rattle.ad_core.specs.Sights.{footing_of}
use Rattle.ad_core.proofs.LookLemmas.{entered_by-look, entered_by-front}
use Rattle.ad_reply.specs.Replies.{Reply, IsReplyOn}
use Rattle.ad_session.specs.LookAnswers as says
use Rattle.ad_session.specs.LookAnswers.{Looks}
use Rattle.ad_session.specs.Answers as answers
use Rattle.ad_session.specs.Answers.{Answers, Pass, pass, SessionRun}
use Rattle.ad_session.specs.Machines as machines
use Rattle.ad_session.specs.Machines.{MachineAnswers, MachineRun}
use Rattle.ad_session.specs.Rounds.{KeepsOthers}
use Rattle.ad_session.specs.Laws.{pass_of, AreFronts, MachinesRunAsSessions, EnteredGrows, EnteredAlwaysGrows, LooksStayEntered}

front_itself : (log : List Logged) → IsFront log log
front_itself log = record { rest = []; is = sym (append-nil log) }

front_on : (a b c : List Logged) → IsFront a b → IsFront b c → IsFront a c
front_on a b c first then_ = record { rest = first.rest ++ then_.rest; is = then_.is ∙ ap (λ t. t ++ then_.rest) first.is ∙ append_assoc a first.rest then_.rest }

all_fronts : (before after : List Logged) (told : List (List Logged)) → IsFront before after → AllByRecursion (λ log. IsFront log before) told → AllByRecursion (λ log. IsFront log after) told
all_fronts before after [] on all = tt
all_fronts before after (log ∷ told) on all = (front_on log before after all.0 on, all_fronts before after told on all.1)

all_more : (log : List Logged) (told : List (List Logged)) (one : List Logged) → AllByRecursion (λ l. IsFront l log) told → IsFront one log → AllByRecursion (λ l. IsFront l log) (told ++ one ∷ [])
all_more log [] one all is = (is, tt)
all_more log (x ∷ told) one all is = (all.0, all_more log told one all.1 is)

-- a machine stays one
machine_looks : (machine : State) → IsMachine machine → IsMachine (after_look machine)
machine_looks machine is =
    let entered = set machine.entered machine.session (length machine.log) in
    let count : length (set machine.entered machine.session (length machine.log)) ≡ length machine.entered = length-set machine.entered machine.session (length machine.log) in
    record {
      is_log = is.is_log;
      within = λ session below. elim (cases_eq session machine.session) [
        | inl e ↦
            let here : get_or (set machine.entered machine.session (length machine.log)) session 0 ≡ length machine.log = subst (λ k. get_or (set machine.entered machine.session (length machine.log)) k 0 ≡ length machine.log) (sym e) (get_or-set_same machine.entered machine.session (length machine.log) 0 is.looking) in
            omega (arith, here)
        | inr apart ↦ omega (arith, get_or-set_other machine.entered machine.session session (length machine.log) 0 apart, is.within session (omega (arith, count)))
      ];
      some = omega (arith, count, is.some);
      few = omega (arith, count, is.few);
      looking = omega (arith, count, is.looking);
    }

machine_commits : (machine : State) (ops : List Op) → IsMachine machine → IsMachine (after_commit machine machine.session ops)
machine_commits machine ops is =
    let entry = next_entry machine.log (ticket_of machine.session) ops in
    record {
      is_log = GoesOn-push [] machine.log entry is.is_log refl;
      within = λ session below. omega (arith, length_push machine.log entry, is.within session below);
      some = is.some;
      few = is.few;
      looking = is.looking;
    }

machine_stays : (old new : State) (i : Item) (reply : Reply) → IsMachine old → MachineAnswers old i reply new → IsMachine new
machine_stays old new i reply is (machines.unasked asked said same) = subst IsMachine (sym same) is
machine_stays old new i reply is (machines.unread r cause asked known unread said same) = subst IsMachine (sym same) is
machine_stays old new i reply is (machines.queried r asked answers same) = subst IsMachine (sym same) (machine_looks old is)
machine_stays old new i reply is (machines.wanting r asked takes said same) = subst IsMachine (sym same) is
machine_stays old new i reply is (machines.accepted r ops asked spelled expects free eq same) = subst IsMachine (sym same) (machine_commits old ops is)
machine_stays old new i reply is (machines.limited_edit r ops which count asked spelled expects passes eq same) = subst IsMachine (sym same) is
machine_stays old new i reply is (machines.moved_edit r ops asked spelled moves eq same) = subst IsMachine (sym same) is

pub run_stays : (old new : State) (items : List Item) (replies : List Reply) → IsMachine old → MachineRun old items replies new → IsMachine new
run_stays old new [] [] is run = subst IsMachine (sym run) is
run_stays old new [] (r ∷ replies) is run = absurd run
run_stays old new (i ∷ items) [] is run = absurd run
run_stays old new (i ∷ items) (r ∷ replies) is run = run_stays run.0 new items replies (machine_stays old run.0 i r is run.1) run.2

-- what no reply changes
record Keeps (old new : State) : Type 0 where
  limits : new.limits ≡ old.limits
  session : new.session ≡ old.session
  others : set new.entered old.session 0 ≡ set old.entered old.session 0

keeps_itself : (machine : State) → Keeps machine machine
keeps_itself machine = record { limits = refl; session = refl; others = refl }

keeps_looks : (machine : State) → Keeps machine (after_look machine)
keeps_looks machine = record { limits = refl; session = refl; others = set-set machine.entered machine.session (length machine.log) 0 }

keeps_commits : (machine : State) (ops : List Op) → Keeps machine (after_commit machine machine.session ops)
keeps_commits machine ops = record { limits = refl; session = refl; others = refl }

keeps_on : (a b c : State) → Keeps a b → Keeps b c → Keeps a c
keeps_on a b c first then_ = record {
  limits = then_.limits ∙ first.limits;
  session = then_.session ∙ first.session;
  others = subst (λ k. set c.entered k 0 ≡ set b.entered k 0) first.session then_.others ∙ first.others;
}

answer_keeps : (old new : State) (i : Item) (reply : Reply) → MachineAnswers old i reply new → Keeps old new
answer_keeps old new i reply (machines.unasked asked said same) = subst (Keeps old) (sym same) (keeps_itself old)
answer_keeps old new i reply (machines.unread r cause asked known unread said same) = subst (Keeps old) (sym same) (keeps_itself old)
answer_keeps old new i reply (machines.queried r asked answers same) = subst (Keeps old) (sym same) (keeps_looks old)
answer_keeps old new i reply (machines.wanting r asked takes said same) = subst (Keeps old) (sym same) (keeps_itself old)
answer_keeps old new i reply (machines.accepted r ops asked spelled expects free eq same) = subst (Keeps old) (sym same) (keeps_commits old ops)
answer_keeps old new i reply (machines.limited_edit r ops which count asked spelled expects passes eq same) = subst (Keeps old) (sym same) (keeps_itself old)
answer_keeps old new i reply (machines.moved_edit r ops asked spelled moves eq same) = subst (Keeps old) (sym same) (keeps_itself old)

run_keeps : (old new : State) (items : List Item) (replies : List Reply) → MachineRun old items replies new → Keeps old new
run_keeps old new [] [] run = subst (Keeps old) (sym run) (keeps_itself old)
run_keeps old new [] (r ∷ replies) run = absurd run
run_keeps old new (i ∷ items) [] run = absurd run
run_keeps old new (i ∷ items) (r ∷ replies) run = keeps_on old run.0 new (answer_keeps old run.0 i r run.1) (run_keeps run.0 new items replies run.2)

pub run_limits : (old new : State) (items : List Item) (replies : List Reply) → MachineRun old items replies new → new.limits ≡ old.limits
run_limits old new items replies run = (run_keeps old new items replies run).limits

pub run_session : (old new : State) (items : List Item) (replies : List Reply) → MachineRun old items replies new → new.session ≡ old.session
run_session old new items replies run = (run_keeps old new items replies run).session

pub run_others : (old new : State) (items : List Item) (replies : List Reply) → MachineRun old items replies new → KeepsOthers old.session old new
run_others old new items replies run = let keeps = run_keeps old new items replies run in record { limits = keeps.limits; others = keeps.others }

-- what is entered after an edit
entered_committed : (machine : State) (ops : List Op) → IsMachine machine → entered_by (after_commit machine machine.session ops) machine.session ≡ entered_by machine machine.session
entered_committed machine ops is = take-append-le (get_or machine.entered machine.session 0) machine.log (next_entry machine.log (ticket_of machine.session) ops ∷ []) (is.within machine.session is.looking)

grows_itself : (machine : State) → EnteredGrows machine machine
grows_itself machine = front_itself (entered_by machine machine.session)

grows_looks : (machine : State) → IsMachine machine → EnteredGrows machine (after_look machine)
grows_looks machine is = subst (λ (log : List Logged). IsFront (entered_by machine machine.session) log) (sym (entered_by-look machine is.looking)) (entered_by-front machine machine.session)

grows_commits : (machine : State) (ops : List Op) → IsMachine machine → EnteredGrows machine (after_commit machine machine.session ops)
grows_commits machine ops is = subst (λ (log : List Logged). IsFront (entered_by machine machine.session) log) (sym (entered_committed machine ops is)) (grows_itself machine)

answer_grows : (old new : State) (i : Item) (reply : Reply) → IsMachine old → MachineAnswers old i reply new → EnteredGrows old new
answer_grows old new i reply is (machines.unasked asked said same) = subst (EnteredGrows old) (sym same) (grows_itself old)
answer_grows old new i reply is (machines.unread r cause asked known unread said same) = subst (EnteredGrows old) (sym same) (grows_itself old)
answer_grows old new i reply is (machines.queried r asked answers same) = subst (EnteredGrows old) (sym same) (grows_looks old is)
answer_grows old new i reply is (machines.wanting r asked takes said same) = subst (EnteredGrows old) (sym same) (grows_itself old)
answer_grows old new i reply is (machines.accepted r ops asked spelled expects free eq same) = subst (EnteredGrows old) (sym same) (grows_commits old ops is)
answer_grows old new i reply is (machines.limited_edit r ops which count asked spelled expects passes eq same) = subst (EnteredGrows old) (sym same) (grows_itself old)
answer_grows old new i reply is (machines.moved_edit r ops asked spelled moves eq same) = subst (EnteredGrows old) (sym same) (grows_itself old)

pub run_grows : EnteredAlwaysGrows
run_grows old new [] [] is run = subst (EnteredGrows old) (sym run) (grows_itself old)
run_grows old new [] (r ∷ replies) is run = absurd run
run_grows old new (i ∷ items) [] is run = absurd run
run_grows old new (i ∷ items) (r ∷ replies) is run =
    front_on (entered_by old old.session) (entered_by run.0 run.0.session) (entered_by new new.session) (answer_grows old run.0 i r is run.1) (run_grows run.0 new items replies (machine_stays old run.0 i r is run.1) run.2)

pub looks_stay : LooksStayEntered
looks_stay old new items replies is run =
    subst (λ (log : List Logged). IsFront log (entered_by new new.session)) (entered_by-look old is.looking) (run_grows (after_look old) new items replies (machine_looks old is) run)

-- one step
record StepsAs (old new : State) (told : List (List Logged)) (i : Item) (reply : Reply) : Type 0 where
  told_then : List (List Logged)
  fronts : AreFronts new told_then
  step : Answers old.limits (pass_of old told) i reply (pass_of new told_then)

still : (old : State) (told : List (List Logged)) (i : Item) (reply : Reply) → AreFronts old told → says.LookAnswers old.limits.depth (footing_of old) (pass_of old told).sight i reply (pass_of old told).sight → StepsAs old old told i reply
still old told i reply fronts s = record { told_then = told; fronts = fronts; step = answers.said (footing_of old) (pass_of old told).sight s refl }

-- a look of the machine, as a look of its pass
pass_looks : (old : State) (told : List (List Logged)) → IsMachine old → AreFronts old told → Looks (footing_of old) (pass_of old told).sight (pass_of (after_look old) told).sight
pass_looks old told is fronts =
    let whole : entered_by (after_look old) old.session ≡ old.log = entered_by-look old is.looking in
    record {
      enters = record {
        is_log = subst IsLog (sym whole) is.is_log;
        entered = grows_looks old is;
        told_too = subst (λ (log : List Logged). AllByRecursion (λ l. IsFront l log) told) (sym whole) fronts;
        looks = refl;
        told = refl;
        lapses = omega arith;
      };
      reaches = whole;
      lapses = refl;
    }

looks_as : (old : State) (told : List (List Logged)) (i : Item) (reply : Reply) → AreFronts old told → says.LookAnswers old.limits.depth (footing_of old) (pass_of old told).sight i reply (pass_of (after_look old) told).sight → StepsAs old (after_look old) told i reply
looks_as old told i reply fronts s = record { told_then = told; fronts = fronts; step = answers.said (footing_of old) (pass_of (after_look old) told).sight s refl }

commit_pass : (old : State) (told : List (List Logged)) (ops : List Op) → IsMachine old → (let entry = next_entry old.log (ticket_of old.session) ops in pass_of (after_commit old old.session ops) (told ++ (old.log ++ entry ∷ []) ∷ []) ≡ pass (tell (pass_of old told).sight (old.log ++ entry ∷ [])) (ticket_of old.session) (count_of old.log (ticket_of old.session) + 1))
commit_pass old told ops is =
    let entry = next_entry old.log (ticket_of old.session) ops in
    let log = old.log ++ entry ∷ [] in
    let entered = entered_committed old ops is in
    let count : count_of (old.log ++ entry ∷ []) (ticket_of old.session) ≡ count_of old.log (ticket_of old.session) + 1 =
    count_of-append old.log (entry ∷ []) (ticket_of old.session) ∙ ap (λ n. count_of old.log (ticket_of old.session) + n) (count_of-one entry (ticket_of old.session) refl) in
    λ j. pass (record { entered = entered j; looks = old.looks; told = told ++ log ∷ []; lapses = 0 }) (ticket_of old.session) (count j)

step_as : (old new : State) (told : List (List Logged)) (i : Item) (reply : Reply) → IsMachine old → AreFronts old told → MachineAnswers old i reply new → StepsAs old new told i reply
step_as old new told i reply is fronts (machines.unasked asked said same) = subst (λ (m : State). StepsAs old m told i reply) (sym same) (still old told i reply fronts (says.unasked asked said refl))
step_as old new told i reply is fronts (machines.unread r cause asked known unread said same) = subst (λ (m : State). StepsAs old m told i reply) (sym same) (still old told i reply fronts (says.unread r cause asked known unread said refl))
step_as old new told i reply is fronts (machines.wanting r asked takes said same) = subst (λ (m : State). StepsAs old m told i reply) (sym same) (still old told i reply fronts (says.wanting r asked takes said refl))
step_as old new told i reply is fronts (machines.queried r asked answers same) =
    let whole : entered_by (after_look old) old.session ≡ old.log = entered_by-look old is.looking in
    subst (λ (m : State). StepsAs old m told i reply) (sym same)
    (looks_as old told i reply fronts
    (says.queried r asked (pass_looks old told is fronts) (subst (λ (log : List Logged). IsReplyOn old.limits.depth r i.payload (length log) (replay log) reply) (sym whole) answers)))
step_as old new told i reply is fronts (machines.accepted r ops asked spelled expects free eq same) =
    let entry = next_entry old.log (ticket_of old.session) ops in
    let log = old.log ++ entry ∷ [] in
    let on : IsFront old.log log = record { rest = entry ∷ []; is = refl } in
    subst (λ (m : State). StepsAs old m told i reply) (sym same) (record {
      told_then = told ++ log ∷ [];
      fronts = all_more log told log (all_fronts old.log log told on fronts) (front_itself log);
      step = answers.accepted r ops old.log entry asked spelled (GoesOn-push [] old.log entry is.is_log refl) refl refl (commit_pass old told ops is) expects free eq;
    })
step_as old new told i reply is fronts (machines.limited_edit r ops which count asked spelled expects passes eq same) =
    subst (λ (m : State). StepsAs old m told i reply) (sym same) (record {
      told_then = told ++ old.log ∷ [];
      fronts = all_more old.log told old.log fronts (front_itself old.log);
      step = answers.limited_edit r ops old.log which count asked spelled is.is_log refl expects passes eq;
    })
step_as old new told i reply is fronts (machines.moved_edit r ops asked spelled moves eq same) =
    subst (λ (m : State). StepsAs old m told i reply) (sym same) (record {
      told_then = told ++ old.log ∷ [];
      fronts = all_more old.log told old.log fronts (front_itself old.log);
      step = answers.moved_edit r ops old.log asked spelled is.is_log refl moves eq;
    })

pub runs_as : MachinesRunAsSessions
runs_as old new told [] [] is fronts run = record { told_then = told; fronts = subst (λ (m : State). AreFronts m told) (sym run) fronts; run = ap (λ (m : State). pass_of m told) run }
runs_as old new told [] (r ∷ replies) is fronts run = absurd run
runs_as old new told (i ∷ items) [] is fronts run = absurd run
runs_as old new told (i ∷ items) (r ∷ replies) is fronts run =
    let first = step_as old run.0 told i r is fronts run.1 in
    let rest = runs_as run.0 new first.told_then items replies (machine_stays old run.0 i r is run.1) first.fronts run.2 in
    let limits : run.0.limits ≡ old.limits = (answer_keeps old run.0 i r run.1).limits in
    record {
      told_then = rest.told_then;
      fronts = rest.fronts;
      run = (pass_of run.0 first.told_then, first.step, subst (λ (l : Limits). SessionRun l (pass_of run.0 first.told_then) items replies (pass_of new rest.told_then)) limits rest.run);
    }
