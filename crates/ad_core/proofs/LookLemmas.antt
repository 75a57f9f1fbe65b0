-- A look of a machine enters its whole log and leaves what it stands on.
use Rattle.std.proofs.Common.{◌≡◌, ℕ, ◌<◌, ◌≤◌, List, length, take, drop, get_or, set, refl, ap, sym, ◌∙◌, arith, [], ◌++◌, subst, append-nil, length-append, ◌+◌}
use Rattle.std.proofs.lemmas.List.{get_or-set_same, length-take, set-set, take_all, take-append-drop, nil_from_length}
use Rattle.ad_base.specs.declared.limits.Limits.{Limits}
use Rattle.ad_edition.specs.Log.{Logged, IsLog}
use Rattle.ad_edition.specs.Sight.{Sight, Footing, IsFront, Enters}
use Rattle.ad_edition.specs.State.{State, entered_by, after_look}
use Rattle.ad_core.specs.Sights.{sight_of, footing_of}

-- equal parts, equal machines
pub state_is : (log log' : List Logged) (entered entered' : List ℕ) (limits limits' : Limits) (session looks : ℕ) → log ≡ log' → entered ≡ entered' → limits ≡ limits' → record { log = log; entered = entered; limits = limits; session = session; looks = looks } ≡ (let state : State = record { log = log'; entered = entered'; limits = limits'; session = session; looks = looks } in state)
state_is log log' entered entered' limits limits' session looks same_log same_entered same_limits = λ i. record { log = same_log i; entered = same_entered i; limits = same_limits i; session = session; looks = looks }

-- after a look the whole log is entered
pub entered_by-look : (machine : State) → machine.session < length machine.entered → entered_by (after_look machine) machine.session ≡ machine.log
entered_by-look machine looking =
    ap (λ n. take n machine.log) (get_or-set_same machine.entered machine.session (length machine.log) 0 looking) ∙ take_all (length machine.log) machine.log (omega arith)

pub Enters-look : (machine : State) → IsLog machine.log → machine.session < length machine.entered → Enters (sight_of machine) (sight_of (after_look machine))
Enters-look machine is looking = record {
  is_log = subst IsLog (sym (entered_by-look machine looking)) is;
  entered = record {
    rest = drop (get_or machine.entered machine.session 0) machine.log;
    is = entered_by-look machine looking ∙ sym (take-append-drop (get_or machine.entered machine.session 0) machine.log);
  };
  told_too = tt;
  looks = refl;
  told = refl;
  lapses = omega arith;
}

pub footing_of-look : (machine : State) → footing_of (after_look machine) ≡ footing_of machine
footing_of-look machine = ap (λ others. Footing.machine machine.session machine.log others) (set-set machine.entered machine.session (length machine.log) 0)

-- what a look stands on tells the session that looks, the log, and what the other sessions have entered
pub footing_tells : (old new : State) → footing_of new ≡ footing_of old → (new.session ≡ old.session) × (new.log ≡ old.log) × (set new.entered new.session 0 ≡ set old.entered old.session 0)
footing_tells old new same = (cc, cc, cc)

-- where it has entered as much as the whole log, its count is the log's length
pub entered_whole : (machine : State) → machine.session < length machine.entered → get_or machine.entered machine.session 0 ≤ length machine.log → length machine.log ≤ length (entered_by machine machine.session) → get_or machine.entered machine.session 0 ≡ length machine.log
entered_whole machine looking within whole = omega (arith, length-take (get_or machine.entered machine.session 0) machine.log)

-- two lists that begin each other are the same
pub fronts_meet : (xs ys : List Logged) → IsFront xs ys → IsFront ys xs → xs ≡ ys
fronts_meet xs ys there back =
    let longer : length ys ≡ length xs + length there.rest = ap length there.is ∙ length-append xs there.rest in
    let shorter : length xs ≡ length ys + length back.rest = ap length back.is ∙ length-append ys back.rest in
    let none : there.rest ≡ [] = nil_from_length there.rest (omega (arith, longer, shorter)) in
    sym (there.is ∙ ap (λ rest. xs ++ rest) none ∙ append-nil xs)

-- Who has entered the whole log enters it again, as long as what is entered begins that log.
pub whole_stays : (log : List Logged) (old new : Sight) → old.entered ≡ log → Enters old new → IsFront new.entered log → new.entered ≡ log
whole_stays log old new whole enters front =
    fronts_meet new.entered log front (subst (λ (xs : List Logged). IsFront xs new.entered) whole enters.entered)

-- what a session has entered begins the log
pub entered_by-front : (machine : State) (session : ℕ) → IsFront (entered_by machine session) machine.log
entered_by-front machine session = record {
  rest = drop (get_or machine.entered session 0) machine.log;
  is = sym (take-append-drop (get_or machine.entered session 0) machine.log);
}
