-- What the type of machines keeps, at the start and from call to call.
use Rattle.std.proofs.Common.{◌≡◌, ℕ, suc, zero, ◌+◌, ◌<◌, ◌≤◌, inl, inr, List, [], ◌∷◌, ◌++◌, Option, None, Some, length, get_or, set, map, replicate, refl, ap, sym, ◌∙◌, subst, arith}
use Rattle.std.proofs.lemmas.Bool.{cases_eq, ne_eqb}
use Rattle.std.proofs.lemmas.List.{length-set, length-replicate, get_or_read, get_or-map, get_or-set_same, get_or-set_other, get_or-replicate, map-set, set-get_or}
use Rattle.ad_base.specs.declared.limits.Limits.{Limits}
use Rattle.ad_tree.specs.declared.edits.Op.{Op}
use Rattle.ad_edition.specs.Log.{Logged, logged, count_of}
use Rattle.ad_edition.specs.Edition.{Limited, first_of_all, next_edition}
use Rattle.ad_edition.proofs.LogLemmas.{count_of-append, count_of-le, count_of-one, count_of-other}
use Rattle.ad_edition.specs.Editions.{AreEditionsOf}
use Rattle.ad_core.specs.Kept.{numbers_of, Awaits, IsKept}
use Rattle.ad_core.proofs.EditionsLemmas.{number_is, AreEditionsOf-first, AreEditionsOf-commit, AreEditionsOf-enter}

map-replicate : {X Y : Type 0} (f : X → Y) (n : ℕ) (x : X) → map f (replicate n x) ≡ replicate n (f x)
map-replicate f zero x = refl
map-replicate f (suc n) x = ap (λ ys. f x ∷ ys) (map-replicate f n x)

-- no session has entered an entry
pub numbers_of-first : (limits : Limits) (sessions : ℕ) → numbers_of (replicate sessions (first_of_all limits)) ≡ replicate sessions 0
numbers_of-first limits sessions = map-replicate (λ (edition : Limited). edition.shown.number) sessions (first_of_all limits)

pub IsKept-first : (limits : Limits) (sessions workers : ℕ) → 1 ≤ sessions → sessions ≤ 8 → (1 ≤ workers) × (workers ≤ 16) → IsKept [] (first_of_all limits) (replicate sessions (first_of_all limits)) (replicate sessions (Some (first_of_all limits))) (replicate sessions 0) 0 workers
IsKept-first limits sessions workers some few within =
    let first = first_of_all limits in
    let count : length (replicate sessions first) ≡ sessions = length-replicate sessions first in
    record {
      editions = subst (λ ns. AreEditionsOf limits [] ns first (replicate sessions first)) (sym (numbers_of-first limits sessions)) (AreEditionsOf-first limits sessions);
      some = omega (arith, count);
      few = omega (arith, count);
      waiting_count = length-replicate sessions (Some first) ∙ sym count;
      awaits = λ at d l.
          let waits : get_or (replicate sessions (Some first)) at None ≡ Some first = get_or-replicate sessions at (Some first) None (omega (arith, count)) in
          subst (λ o. Awaits o (get_or (replicate sessions first) at d) first) (sym waits) refl;
      edit_count = length-replicate {A = ℕ} sessions 0 ∙ sym count;
      counted = λ at l. get_or-replicate {A = ℕ} sessions at 0 0 (omega (arith, count));
      looking = omega (arith, count);
      worker_count = within;
    }

-- another session looks
pub IsKept-attend : (log : List Logged) (newest : Limited) (seen : List Limited) (waiting : List (Option Limited)) (edits : List ℕ) (session workers other : ℕ) → IsKept log newest seen waiting edits session workers → other < length seen → IsKept log newest seen waiting edits other workers
IsKept-attend log newest seen waiting edits session workers other kept l = record {
  editions = kept.editions;
  some = kept.some;
  few = kept.few;
  waiting_count = kept.waiting_count;
  awaits = kept.awaits;
  edit_count = kept.edit_count;
  counted = kept.counted;
  looking = l;
  worker_count = kept.worker_count;
}

-- the newest edition's number is the log's length
pub newest_number : (log : List Logged) (newest : Limited) (seen : List Limited) (waiting : List (Option Limited)) (edits : List ℕ) (session workers : ℕ) → IsKept log newest seen waiting edits session workers → newest.shown.number ≡ length log
newest_number log newest seen waiting edits session workers kept = number_is newest.limits log newest kept.editions.newest_is

-- what waits for a session is the newest edition
pub waits_newest : (log : List Logged) (newest : Limited) (seen : List Limited) (waiting : List (Option Limited)) (edits : List ℕ) (session workers at : ℕ) (edition : Limited) → IsKept log newest seen waiting edits session workers → at < length seen → get_or waiting at None ≡ Some edition → edition ≡ newest
waits_newest log newest seen waiting edits session workers at edition kept l waits =
    subst (λ o. Awaits o (get_or seen at newest) newest) waits (kept.awaits at newest l)

-- a session takes the edition that waits for it
pub numbers_of-enter : (log : List Logged) (newest : Limited) (seen : List Limited) (waiting : List (Option Limited)) (edits : List ℕ) (session workers at : ℕ) → IsKept log newest seen waiting edits session workers → numbers_of (set seen at newest) ≡ set (numbers_of seen) at (length log)
numbers_of-enter log newest seen waiting edits session workers at kept =
    map-set (λ (edition : Limited). edition.shown.number) seen at newest ∙ ap (λ n. set (numbers_of seen) at n) (newest_number log newest seen waiting edits session workers kept)

pub IsKept-enter : (log : List Logged) (newest : Limited) (seen : List Limited) (waiting : List (Option Limited)) (edits : List ℕ) (session workers at : ℕ) → IsKept log newest seen waiting edits session workers → at < length seen → IsKept log newest (set seen at newest) (set waiting at None) edits session workers
IsKept-enter log newest seen waiting edits session workers at kept l =
    let count : length (set seen at newest) ≡ length seen = length-set seen at newest in
    record {
      editions = subst (λ ns. AreEditionsOf newest.limits log ns newest (set seen at newest)) (sym (numbers_of-enter log newest seen waiting edits session workers at kept)) (AreEditionsOf-enter newest.limits log (numbers_of seen) newest seen at kept.editions);
      some = omega (arith, count, kept.some);
      few = omega (arith, count, kept.few);
      waiting_count = length-set waiting at None ∙ kept.waiting_count ∙ sym count;
      awaits = λ k d below.
          let in_range : k < length seen = omega (arith, count) in
          elim (cases_eq k at) [
            | inl e ↦
                let none : get_or (set waiting at None) k None ≡ None = subst (λ j. get_or (set waiting at None) j None ≡ None) (sym e) (get_or-set_same waiting at None None (omega (arith, kept.waiting_count))) in
                let here : get_or (set seen at newest) k d ≡ newest = subst (λ j. get_or (set seen at newest) j d ≡ newest) (sym e) (get_or-set_same seen at newest d l) in
                subst (λ o. Awaits o (get_or (set seen at newest) k d) newest) (sym none) (ap (λ (edition : Limited). edition.shown.number) here)
            | inr apart ↦
                subst (λ o. Awaits o (get_or (set seen at newest) k d) newest) (sym (get_or-set_other waiting at k None None apart))
                (subst (λ (edition : Limited). Awaits (get_or waiting k None) edition newest) (sym (get_or-set_other seen at k newest d apart)) (kept.awaits k d in_range))
          ];
      edit_count = kept.edit_count ∙ sym count;
      counted = λ k below. kept.counted k (omega (arith, count));
      looking = omega (arith, count, kept.looking);
      worker_count = kept.worker_count;
    }

-- a session for which nothing waits has entered the whole log already
pub set-none : (waiting : List (Option Limited)) (at : ℕ) → get_or waiting at None ≡ None → set waiting at None ≡ waiting
set-none waiting at none = ap (λ o. set waiting at o) (sym none) ∙ set-get_or waiting at None

pub numbers_of-still : (log : List Logged) (newest : Limited) (seen : List Limited) (waiting : List (Option Limited)) (edits : List ℕ) (session workers at : ℕ) → IsKept log newest seen waiting edits session workers → at < length seen → get_or waiting at None ≡ None → numbers_of seen ≡ set (numbers_of seen) at (length log)
numbers_of-still log newest seen waiting edits session workers at kept l none =
    let number : (get_or seen at newest).shown.number ≡ newest.shown.number = subst (λ o. Awaits o (get_or seen at newest) newest) none (kept.awaits at newest l) in
    let entered : get_or (numbers_of seen) at 0 ≡ length log = get_or-map (λ (edition : Limited). edition.shown.number) seen at newest 0 l ∙ number ∙ newest_number log newest seen waiting edits session workers kept in
    sym (set-get_or (numbers_of seen) at 0) ∙ ap (λ n. set (numbers_of seen) at n) entered

-- one more entry of a session
pub IsKept-commit : (log : List Logged) (newest : Limited) (seen : List Limited) (waiting : List (Option Limited)) (edits : List ℕ) (session workers at : ℕ) (batch : List Op) → IsKept log newest seen waiting edits session workers → at < length seen → IsKept (log ++ logged (at + 1) (count_of log (at + 1) + 1) batch ∷ []) (next_edition newest batch) seen (replicate (length seen) (Some (next_edition newest batch))) (set edits at (count_of log (at + 1) + 1)) session workers
IsKept-commit log newest seen waiting edits session workers at batch kept l =
    let entry = logged (at + 1) (count_of log (at + 1) + 1) batch in
    let next = next_edition newest batch in
    record {
      editions = AreEditionsOf-commit newest.limits log (numbers_of seen) newest seen entry refl kept.editions;
      some = kept.some;
      few = kept.few;
      waiting_count = length-replicate (length seen) (Some next);
      awaits = λ k d below. subst (λ o. Awaits o (get_or seen k d) next) (sym (get_or-replicate (length seen) k (Some next) None below)) refl;
      edit_count = length-set edits at (count_of log (at + 1) + 1) ∙ kept.edit_count;
      counted = λ k below.
          let both : count_of (log ++ entry ∷ []) (k + 1) ≡ count_of log (k + 1) + count_of (entry ∷ []) (k + 1) = count_of-append log (entry ∷ []) (k + 1) in
          elim (cases_eq k at) [
            | inl e ↦
                let one : count_of (entry ∷ []) (k + 1) ≡ 1 = count_of-one entry (k + 1) (ap (λ n. n + 1) (sym e)) in
                let here : get_or (set edits at (count_of log (at + 1) + 1)) k 0 ≡ count_of log (k + 1) + 1 = subst (λ j. get_or (set edits at (count_of log (at + 1) + 1)) j 0 ≡ count_of log (j + 1) + 1) (sym e) (get_or-set_same edits at (count_of log (at + 1) + 1) 0 (omega (arith, kept.edit_count))) in
                omega (arith, both, one, here)
            | inr apart ↦
                let ticket : at + 1 ≡ k + 1 → ⊥ = λ same_ticket. apart (omega (arith, same_ticket)) in
                let none : count_of (entry ∷ []) (k + 1) ≡ 0 = count_of-other entry (k + 1) (ne_eqb (at + 1) (k + 1) ticket) in
                omega (arith, both, none, get_or-set_other edits at k (count_of log (at + 1) + 1) 0 apart, kept.counted k below)
          ];
      looking = kept.looking;
      worker_count = kept.worker_count;
    }

-- the count beside a session is that of its entries
pub edits_at : (log : List Logged) (newest : Limited) (seen : List Limited) (waiting : List (Option Limited)) (edits : List ℕ) (session workers at n : ℕ) → IsKept log newest seen waiting edits session workers → at < length seen → n ≡ get_or edits at n → n ≡ count_of log (at + 1)
edits_at log newest seen waiting edits session workers at n kept l read =
    get_or_read edits at n (omega (arith, kept.edit_count)) read 0 ∙ kept.counted at l

-- no session has more entries than the newest edition's number
pub edits_below : (log : List Logged) (newest : Limited) (seen : List Limited) (waiting : List (Option Limited)) (edits : List ℕ) (session workers at n : ℕ) → IsKept log newest seen waiting edits session workers → at < length seen → n ≡ get_or edits at n → n ≤ newest.shown.number
edits_below log newest seen waiting edits session workers at n kept l read =
    omega (arith, edits_at log newest seen waiting edits session workers at n kept l read, count_of-le log (at + 1), newest_number log newest seen waiting edits session workers kept)

-- the same with what the code has made
pub IsKept-publish : (log log' : List Logged) (newest newest' : Limited) (seen : List Limited) (waiting waiting' : List (Option Limited)) (edits : List ℕ) (session workers at n sessions : ℕ) (batch : List Op) → IsKept log newest seen waiting edits session workers → at < length seen → n ≡ get_or edits at n → log' ≡ log ++ logged (at + 1) (n + 1) batch ∷ [] → newest' ≡ next_edition newest batch → sessions ≡ length seen → waiting' ≡ replicate sessions (Some newest') → IsKept log' newest' seen waiting' (set edits at (n + 1)) session workers
IsKept-publish log log' newest newest' seen waiting waiting' edits session workers at n sessions batch kept l read log_is newest_is count waiting_is =
    let number : n ≡ count_of log (at + 1) = edits_at log newest seen waiting edits session workers at n kept l read in
    rw (waiting_is, count, newest_is, log_is, number) (IsKept-commit log newest seen waiting edits session workers at batch kept l)
