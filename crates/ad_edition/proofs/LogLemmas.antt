-- Logs go on.
use Rattle.std.proofs.Common.{◌≡◌, ℕ, suc, zero, ◌+◌, ◌<◌, ◌≤◌, true, false, cond, List, [], ◌∷◌, ◌++◌, nat_eq, length, get_or, refl, ap, sym, ◌∙◌, arith, subst, append_assoc, append-nil}
use Rattle.ad_tree.specs.declared.axioms.Noted.{Noted}
use Rattle.ad_apply.specs.Apply.{applied}
use Rattle.ad_edition.specs.Log.{Logged, count_of, GoesOn, IsLog, replay_from, replay}
use Rattle.ad_edition.specs.Sight.{IsFront}
use Rattle.ad_apply.proofs.WorkingLemmas.{nat_eq-itself}

-- how many entries of a ticket there are in two lists
pub count_of-append : (xs ys : List Logged) (ticket : ℕ) → count_of (xs ++ ys) ticket ≡ count_of xs ticket + count_of ys ticket
count_of-append [] ys ticket = omega arith
count_of-append (x ∷ xs) ys ticket =
    let rest = count_of-append xs ys ticket in
    elim (nat_eq x.ticket ticket) as (λ b. cond b (1 + count_of (xs ++ ys) ticket) (count_of (xs ++ ys) ticket) ≡ cond b (1 + count_of xs ticket) (count_of xs ticket) + count_of ys ticket) [ true ↦ omega (arith, rest) | false ↦ rest ]

-- no more entries of a ticket than entries
pub count_of-le : (xs : List Logged) (ticket : ℕ) → count_of xs ticket ≤ length xs
count_of-le [] ticket = omega arith
count_of-le (x ∷ xs) ticket =
    let rest = count_of-le xs ticket in
    elim (nat_eq x.ticket ticket) as (λ b. cond b (1 + count_of xs ticket) (count_of xs ticket) ≤ suc (length xs)) [ true ↦ omega (arith, rest) | false ↦ omega (arith, rest) ]

-- one more entry of a ticket
pub count_of-one : (e : Logged) (ticket : ℕ) → e.ticket ≡ ticket → count_of (e ∷ []) ticket ≡ 1
count_of-one e ticket is = ap (λ b. cond b 1 0) (ap (λ t. nat_eq t ticket) is ∙ nat_eq-itself ticket)

pub count_of-other : (e : Logged) (ticket : ℕ) → nat_eq e.ticket ticket ≡ false → count_of (e ∷ []) ticket ≡ 0
count_of-other e ticket apart = ap (λ b. cond b 1 0) apart

-- one more entry that goes on
pub GoesOn-push : (before es : List Logged) (e : Logged) → GoesOn before es → e.sequence ≡ count_of (before ++ es) e.ticket + 1 → GoesOn before (es ++ e ∷ [])
GoesOn-push before [] e goes next = (subst (λ log. e.sequence ≡ count_of log e.ticket + 1) (append-nil before) next, tt)
GoesOn-push before (x ∷ xs) e goes next =
    (goes.0, GoesOn-push (before ++ x ∷ []) xs e goes.1 (subst (λ log. e.sequence ≡ count_of log e.ticket + 1) (sym (append_assoc before (x ∷ []) xs)) next))

GoesOn-front : (before xs ys : List Logged) → GoesOn before (xs ++ ys) → GoesOn before xs
GoesOn-front before [] ys goes = tt
GoesOn-front before (x ∷ xs) ys goes = (goes.0, GoesOn-front (before ++ x ∷ []) xs ys goes.1)

-- what begins a log is a log
pub IsLog-front : (front log : List Logged) → IsFront front log → IsLog log → IsLog front
IsLog-front front log begins is = GoesOn-front [] front begins.rest (subst IsLog begins.is is)

-- a later entry has a higher sequence than its ticket has entries before
sequence_above : (before es : List Logged) → GoesOn before es → (j : ℕ) (d : Logged) → j < length es → count_of before (get_or es j d).ticket < (get_or es j d).sequence
sequence_above before [] goes j d l = absurd (omega arith)
sequence_above before (e ∷ es) goes zero d l = omega (arith, goes.0)
sequence_above before (e ∷ es) goes (suc j) d l =
    omega (arith, sequence_above (before ++ e ∷ []) es goes.1 j d (omega arith), count_of-append before (e ∷ []) (get_or es j d).ticket)

entries_apart : (before es : List Logged) → GoesOn before es → (i j : ℕ) (d : Logged) → i < j → j < length es → (get_or es i d).ticket ≡ (get_or es j d).ticket → (get_or es i d).sequence ≡ (get_or es j d).sequence → ⊥
entries_apart before [] goes i j d l m t s = absurd (omega arith)
entries_apart before (e ∷ es) goes i zero d l m t s = absurd (omega arith)
entries_apart before (e ∷ es) goes zero (suc j) d l m t s =
    let other = get_or es j d in
    let above = sequence_above (before ++ e ∷ []) es goes.1 j d (omega arith) in
    let first : e.sequence ≡ count_of before other.ticket + 1 = goes.0 ∙ ap (λ ticket. count_of before ticket + 1) t in
    let both : count_of (before ++ e ∷ []) other.ticket ≡ count_of before other.ticket + 1 = count_of-append before (e ∷ []) other.ticket ∙ ap (λ n. count_of before other.ticket + n) (count_of-one e other.ticket t) in
    absurd (omega (arith, above, first, both, s))
entries_apart before (e ∷ es) goes (suc i) (suc j) d l m t s = entries_apart (before ++ e ∷ []) es goes.1 i j d (omega arith) (omega arith) t s

-- no two entries of a log have the same ticket and sequence
pub entries_differ : (log : List Logged) → IsLog log → (i j : ℕ) (d : Logged) → i < j → j < length log → (get_or log i d).ticket ≡ (get_or log j d).ticket → (get_or log i d).sequence ≡ (get_or log j d).sequence → ⊥
entries_differ log is i j d l m t s = entries_apart [] log is i j d l m t s

replay_from-push : (ontology : List Noted) (es : List Logged) (e : Logged) → replay_from ontology (es ++ e ∷ []) ≡ applied (replay_from ontology es) e.batch
replay_from-push ontology [] e = refl
replay_from-push ontology (x ∷ xs) e = replay_from-push (applied ontology x.batch) xs e

-- one more entry applies its batch
pub replay-push : (log : List Logged) (e : Logged) → replay (log ++ e ∷ []) ≡ applied (replay log) e.batch
replay-push log e = replay_from-push [] log e
