-- The editions of a machine follow its log.
use Rattle.std.proofs.Common.{◌≡◌, ℕ, ◌+◌, ◌<◌, ◌≤◌, inl, inr, Bool, true, false, List, [], ◌∷◌, ◌++◌, Option, None, Some, length, take, get_or, set, replicate, refl, ap, sym, ◌∙◌, subst, arith}
use Rattle.std.proofs.lemmas.Bool.{cases_eq}
use Rattle.std.proofs.lemmas.List.{length_push, length-set, length-replicate, get_or-set_same, get_or-set_other, get_or-replicate, take-append-le, take_all}
use Rattle.ad_base.specs.declared.limits.Limits.{Limits}
use Rattle.ad_tree.specs.declared.edits.Op.{Op}
use Rattle.ad_apply.specs.Apply.{applied}
use Rattle.ad_edition.specs.Log.{Logged, Shown, count_of, next_entry, replay, defined_by}
use Rattle.ad_edition.specs.Limit.{Passed, is_moved}
use Rattle.ad_edition.specs.Edition.{Limited, IsEditionOf, first_of_all, next_edition, passed_by}
use Rattle.ad_edition.proofs.LogLemmas.{GoesOn-push, replay-push}
use Rattle.ad_edition.specs.State.{State, at_first, newest_of, ticket_of, after_commit, first_passed}
use Rattle.ad_edition.specs.Editions.{AreEditionsOf}
use Rattle.ad_edition.specs.Events.{Event, Editions, Follow, AreEnabled, after, after_all, next_editions, all_editions, first_editions, unless_hindered}

-- a log has one edition
pub edition_is : (limits : Limits) (log : List Logged) (edition : Limited) → IsEditionOf limits log edition → edition ≡ record { shown = defined_by log; limits = limits }
edition_is limits log edition is = λ i. record { shown = is.shown i; limits = is.limited i }

pub number_is : (limits : Limits) (log : List Logged) (edition : Limited) → IsEditionOf limits log edition → edition.shown.number ≡ length log
number_is limits log edition is = ap (λ (shown : Shown). shown.number) is.shown

-- the edition after one more entry
pub IsEditionOf-next : (limits : Limits) (log : List Logged) (entry : Logged) (edition : Limited) → IsEditionOf limits log edition → IsEditionOf limits (log ++ entry ∷ []) (next_edition edition entry.batch)
IsEditionOf-next limits log entry edition is =
    let number : edition.shown.number + 1 ≡ length (log ++ entry ∷ []) = ap (λ n. n + 1) (number_is limits log edition is) ∙ sym (length_push log entry) in
    let axioms : applied edition.shown.axioms entry.batch ≡ replay (log ++ entry ∷ []) = ap (λ (shown : Shown). applied shown.axioms entry.batch) is.shown ∙ sym (replay-push log entry) in
    record { shown = λ i. record { number = number i; axioms = axioms i }; limited = is.limited }

pub AreEditionsOf-first : (limits : Limits) (sessions : ℕ) → AreEditionsOf limits [] (replicate sessions 0) (first_of_all limits) (replicate sessions (first_of_all limits))
AreEditionsOf-first limits sessions = record {
  is_log = tt;
  newest_is = record { shown = refl; limited = refl };
  sessions = length-replicate sessions (first_of_all limits) ∙ sym (length-replicate {A = ℕ} sessions 0);
  within = λ session l. omega (arith, get_or-replicate {A = ℕ} sessions session 0 0 (omega (arith, length-replicate {A = ℕ} sessions 0)));
  seen_is = λ session d l.
      let in_range : session < sessions = omega (arith, length-replicate {A = ℕ} sessions 0) in
      let none : get_or (replicate sessions 0) session 0 ≡ 0 = get_or-replicate {A = ℕ} sessions session 0 0 in_range in
      let first : get_or (replicate sessions (first_of_all limits)) session d ≡ first_of_all limits = get_or-replicate sessions session (first_of_all limits) d in_range in
      subst (λ (e : Limited). IsEditionOf limits (take (get_or (replicate sessions 0) session 0) []) e) (sym first) (subst (λ n. IsEditionOf limits (take n []) (first_of_all limits)) (sym none) (record { shown = refl; limited = refl }));
}

-- one more entry
pub AreEditionsOf-commit : (limits : Limits) (log : List Logged) (entered : List ℕ) (newest : Limited) (seen : List Limited) (entry : Logged) → entry.sequence ≡ count_of log entry.ticket + 1 → AreEditionsOf limits log entered newest seen → AreEditionsOf limits (log ++ entry ∷ []) entered (next_edition newest entry.batch) seen
AreEditionsOf-commit limits log entered newest seen entry next are = record {
  is_log = GoesOn-push [] log entry are.is_log next;
  newest_is = IsEditionOf-next limits log entry newest are.newest_is;
  sessions = are.sessions;
  within = λ session l. omega (arith, length_push log entry, are.within session l);
  seen_is = λ session d l. subst (λ front. IsEditionOf limits front (get_or seen session d)) (sym (take-append-le (get_or entered session 0) log (entry ∷ []) (are.within session l))) (are.seen_is session d l);
}

-- a session takes the newest edition
pub AreEditionsOf-enter : (limits : Limits) (log : List Logged) (entered : List ℕ) (newest : Limited) (seen : List Limited) (at : ℕ) → AreEditionsOf limits log entered newest seen → AreEditionsOf limits log (set entered at (length log)) newest (set seen at newest)
AreEditionsOf-enter limits log entered newest seen at are =
    let IsIn : ℕ → ℕ → Type 0 = λ session n. n ≤ length log in
    let IsSeen : ℕ → Limited → Type 0 = λ n edition. IsEditionOf limits (take n log) edition in
    let all : IsSeen (length log) newest = subst (λ front. IsEditionOf limits front newest) (sym (take_all (length log) log (omega arith))) are.newest_is in
    record {
      is_log = are.is_log;
      newest_is = are.newest_is;
      sessions = length-set seen at newest ∙ are.sessions ∙ sym (length-set entered at (length log));
      within = λ session l.
          let in_range : session < length entered = omega (arith, length-set entered at (length log)) in
          elim (cases_eq session at) [
            | inl e ↦
                let here : get_or (set entered at (length log)) session 0 ≡ length log = subst (λ k. get_or (set entered at (length log)) k 0 ≡ length log) (sym e) (get_or-set_same entered at (length log) 0 (omega arith)) in
                omega (arith, here)
            | inr apart ↦ omega (arith, get_or-set_other entered at session (length log) 0 apart, are.within session in_range)
          ];
      seen_is = λ session d l.
          let in_range : session < length entered = omega (arith, length-set entered at (length log)) in
          elim (cases_eq session at) [
            | inl e ↦
                let number : get_or (set entered at (length log)) session 0 ≡ length log = subst (λ k. get_or (set entered at (length log)) k 0 ≡ length log) (sym e) (get_or-set_same entered at (length log) 0 (omega arith)) in
                let edition : get_or (set seen at newest) session d ≡ newest = subst (λ k. get_or (set seen at newest) k d ≡ newest) (sym e) (get_or-set_same seen at newest d (omega (arith, are.sessions))) in
                subst (λ n. IsSeen n (get_or (set seen at newest) session d)) (sym number) (subst (IsSeen (length log)) (sym edition) all)
            | inr apart ↦
                subst (λ n. IsSeen n (get_or (set seen at newest) session d)) (sym (get_or-set_other entered at session (length log) 0 apart))
                (subst (IsSeen (get_or entered session 0)) (sym (get_or-set_other seen at session newest d apart)) (are.seen_is session d in_range))
          ];
    }

-- an edit of the newest edition, where another was expected or not
follow-hindered : (machine : State) (editions : Editions) (session : ℕ) (batch : List Op) (moved : Bool) → Follow machine editions
    → Follow (unless_hindered moved (first_passed machine batch) machine (after_commit machine session batch)) (unless_hindered moved (passed_by editions.newest batch) editions (record editions { newest = next_edition editions.newest batch }))
follow-hindered machine editions session batch true follow = follow
follow-hindered machine editions session batch false follow =
    let entry = next_entry machine.log (ticket_of session) batch in
    let New : Option Passed → Option Passed → Type 0 = λ p q. Follow (unless_hindered false p machine (after_commit machine session batch)) (unless_hindered false q editions (record editions { newest = next_edition editions.newest batch })) in
    let same_limit : passed_by editions.newest batch ≡ first_passed machine batch = ap (λ (e : Limited). passed_by e batch) (edition_is machine.limits machine.log editions.newest follow.newest_is) in
    subst (New (first_passed machine batch)) (sym same_limit) (elim (first_passed machine batch) as (λ p. New p p) [
      | None ↦ AreEditionsOf-commit machine.limits machine.log machine.entered editions.newest editions.seen entry refl follow
      | Some p ↦ follow
    ])

-- the two sides of an edit agree on whether another edition was expected, and on the limit
follow-commits : (machine : State) (editions : Editions) (session : ℕ) (batch : List Op) (expected : Option ℕ) → Follow machine editions → Follow (after machine (Event.commits session batch expected)) (next_editions editions (Event.commits session batch expected))
follow-commits machine editions session batch expected follow =
    let same : editions.newest ≡ newest_of machine = edition_is machine.limits machine.log editions.newest follow.newest_is in
    let number : editions.newest.shown.number ≡ length machine.log = ap (λ (e : Limited). e.shown.number) same in
    subst (λ n. Follow (after machine (Event.commits session batch expected)) (unless_hindered (is_moved expected n) (passed_by editions.newest batch) editions (record editions { newest = next_edition editions.newest batch })))
    (sym number) (follow-hindered machine editions session batch (is_moved expected (length machine.log)) follow)

follow-all : (machine : State) (editions : Editions) (events : List Event) → Follow machine editions → AreEnabled machine events → Follow (after_all machine events) (all_editions editions events)
follow-all machine editions [] follow enabled = follow
follow-all machine editions (Event.commits session batch expected ∷ events) follow enabled =
    follow-all (after machine (Event.commits session batch expected)) (next_editions editions (Event.commits session batch expected)) events (follow-commits machine editions session batch expected follow) enabled.1
follow-all machine editions (Event.enters session ∷ events) follow enabled =
    follow-all (after machine (Event.enters session)) (next_editions editions (Event.enters session)) events (AreEditionsOf-enter machine.limits machine.log machine.entered editions.newest editions.seen session follow) enabled.1

-- from the first machine on
pub follow-events : (limits : Limits) (sessions : ℕ) (events : List Event) → AreEnabled (at_first limits sessions) events → Follow (after_all (at_first limits sessions) events) (all_editions (first_editions limits sessions) events)
follow-events limits sessions events enabled =
    follow-all (at_first limits sessions) (first_editions limits sessions) events (AreEditionsOf-first limits sessions) enabled
