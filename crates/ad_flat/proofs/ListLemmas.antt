-- Lists of slots by symbols.
use Rattle.std.proofs.Common.{◌≡◌, ◌≢◌, ◌<◌, ◌≤◌, ◌==◌, ◌||◌, ◌&&◌, not, ◌⊎◌, ◌+◌, ℕ, zero, suc, Bool, true, false, List, [], ◌∷◌, length, get_or, take, Result, Ok, Err, IsTrue, IsFalse, refl, sym, ap, ◌∙◌, subst, inl, inr, arith, eqb-true, eq-eqb}
use Rattle.std.specs.Prelude.{IsOk, OnOk}
use Rattle.std.specs.List.{slice_set}
use Rattle.std.proofs.lemmas.List.{get_or-set_same, get_or-set_other, take_more}
use Rattle.std.proofs.lemmas.List.Folds.{list_any-append}
use Rattle.smallvec.specs.SmallVec.{SmallVec, HasRoomFor}
use Rattle.ad_theory.specs.Numbers.{among}
use Rattle.ad_theory.proofs.Members.{either, not_both, or_left, or_right, or_cases}
use Rattle.ad_slots.specs.Rising.{IsWith, IsWithout}
use Rattle.ad_flat.specs.Changes.{no_list, list_at, list_of, AreChanged}

pub done_as : {A E : Type 0} (r : Result A E) (P : Type 0) → IsOk r → OnOk r P → P
done_as (Ok x) P k p = p
done_as (Err e) P k p = absurd (not_both k refl)

-- a number is missing where a list without it is the same
pub missing : (n : ℕ) (xs : List ℕ) → IsWithout n xs xs → IsFalse (among xs n)
missing n xs w = w.members n ∙ ap (λ b. not b && among xs n) (eq-eqb n n refl)

pub has_number : (n : ℕ) (xs ys : List ℕ) → IsWith n xs ys → IsTrue (among ys n)
has_number n xs ys w = w.members n ∙ or_left (n == n) (among xs n) (eq-eqb n n refl)

or_twice : (a b : Bool) → (a || (a || b)) ≡ (a || b)
or_twice true b = refl
or_twice false b = refl

and_twice : (a b : Bool) → (a && (a && b)) ≡ (a && b)
and_twice true b = refl
and_twice false b = refl

pub with_twice : (n : ℕ) (xs ys zs : List ℕ) → IsWith n xs ys → IsWith n ys zs → IsWith n xs zs
with_twice n xs ys zs v w = record {
  rising = w.rising;
  members = λ m. w.members m ∙ ap (λ b. (n == m) || b) (v.members m) ∙ or_twice (n == m) (among xs m);
}

pub without_twice : (n : ℕ) (xs ys zs : List ℕ) → IsWithout n xs ys → IsWithout n ys zs → IsWithout n xs zs
without_twice n xs ys zs v w = record {
  rising = w.rising;
  members = λ m. w.members m ∙ ap (λ b. not (n == m) && b) (v.members m) ∙ and_twice (not (n == m)) (among xs m);
}

pub among_at : (xs : List ℕ) (i : ℕ) → i < length xs → IsTrue (among xs (get_or xs i 0))
among_at [] i l = absurd (omega arith)
among_at (x ∷ xs) zero l = or_left (x == x) (among xs x) (eq-eqb x x refl)
among_at (x ∷ xs) (suc i) l = or_right (x == get_or xs i 0) (among xs (get_or xs i 0)) (among_at xs i (omega arith))

-- one more symbol
split_more : (xs : List ℕ) (k s : ℕ) → k < length xs → among (take (k + 1) xs) s ≡ (among (take k xs) s || ((get_or xs k 0 == s) || false))
split_more xs k s l = ap (λ ys. among ys s) (take_more xs k 0 l) ∙ list_any-append (λ x. x == s) (take k xs) (get_or xs k 0 ∷ [])

pub among_more : (xs : List ℕ) (k s : ℕ) → k < length xs → IsTrue (among (take (k + 1) xs) s) → IsTrue (among (take k xs) s) ⊎ (get_or xs k 0 ≡ s)
among_more xs k s l t = elim (or_cases (among (take k xs) s) ((get_or xs k 0 == s) || false) (sym (split_more xs k s l) ∙ t)) [
  | inl a ↦ inl a
  | inr b ↦ elim (or_cases (get_or xs k 0 == s) false b) [ inl e ↦ inr (eqb-true (get_or xs k 0) s e) | inr f ↦ absurd (not_both f refl) ]
]

pub last_among : (xs : List ℕ) (k : ℕ) → k < length xs → IsTrue (among (take (k + 1) xs) (get_or xs k 0))
last_among xs k l = let at : ℕ = get_or xs k 0 in split_more xs k at l ∙ or_right (among (take k xs) at) ((at == at) || false) (or_left (at == at) false (eq-eqb at at refl))

pub earlier_none : (xs : List ℕ) (k s : ℕ) → k < length xs → IsFalse (among (take (k + 1) xs) s) → IsFalse (among (take k xs) s)
earlier_none xs k s l f = elim (either (among (take k xs) s)) [
  | inl t ↦ absurd (not_both (split_more xs k s l ∙ or_left (among (take k xs) s) ((get_or xs k 0 == s) || false) t) f)
  | inr n ↦ n
]

pub bound_more : (xs : List ℕ) (k old new : ℕ) → k < length xs → ((s : ℕ) → IsTrue (among (take k xs) s) → s < old) → old ≤ new → get_or xs k 0 < new → (s : ℕ) → IsTrue (among (take (k + 1) xs) s) → s < new
bound_more xs k old new l above more here s t = elim (among_more xs k s l t) [
  | inl a ↦ (let b : s < old = above s a in omega arith)
  | inr e ↦ subst (λ j. j < new) e here
]

pub least_more : (xs : List ℕ) (k old new : ℕ) → k < length xs → ((bound : ℕ) → ((s : ℕ) → IsTrue (among xs s) → s < bound) → old ≤ bound) → (new ≡ old) ⊎ (new ≡ get_or xs k 0 + 1) → (bound : ℕ) → ((s : ℕ) → IsTrue (among xs s) → s < bound) → new ≤ bound
least_more xs k old new l least (inl e) bound above = let b : old ≤ bound = least bound above in omega arith
least_more xs k old new l least (inr e) bound above = let b : get_or xs k 0 < bound = above (get_or xs k 0) (among_at xs k l) in omega arith

-- one list was written
module _ (before : List (SmallVec ℕ)) (at : ℕ) (list : SmallVec ℕ) (below : at < length before) where
  pub list_here : list_at (slice_set before at list) at ≡ list
  list_here = get_or-set_same before at list no_list below

  pub list_elsewhere : (s : ℕ) → s ≢ at → list_at (slice_set before at list) s ≡ list_at before s
  list_elsewhere s other = get_or-set_other before at s list no_list other

  -- what holds of this list and of all others holds of each
  pub for_each : (P : ℕ → SmallVec ℕ → Type 0) → P at list → ((s : ℕ) → s ≢ at → P s (list_at before s)) → (s : ℕ) → P s (list_at (slice_set before at list) s)
  for_each P here others s = elim (either (s == at)) [
    | inl t ↦ (let e : at ≡ s = sym (eqb-true s at t) in subst (λ k. P k (list_at (slice_set before at list) k)) e (subst (λ l. P at l) (sym list_here) here))
    | inr f ↦ (let other : s ≢ at = λ e. not_both (eq-eqb s at e) f in subst (λ l. P s l) (sym (list_elsewhere s other)) (others s other))
  ]

  pub same_lists : list.items ≡ list_of before at → (s : ℕ) → list_of (slice_set before at list) s ≡ list_of before s
  same_lists same = for_each (λ s l. l.items ≡ list_of before s) same (λ s other. refl)

  module _ (change : List ℕ → List ℕ → Type 0) (follows : (xs ys zs : List ℕ) → change xs ys → change ys zs → change xs zs) (symbols : List ℕ) (k : ℕ) (first : List (SmallVec ℕ))
      (within : k < length symbols) (here : get_or symbols k 0 ≡ at) (made : change (list_of before at) list.items) (so_far : AreChanged change (take k symbols) first before) where
    first_at : change (list_of first at) list.items
    first_at = elim (either (among (take k symbols) at)) [
      | inl t ↦ follows (list_of first at) (list_of before at) list.items (so_far.touched at t) made
      | inr f ↦ subst (λ xs. change xs list.items) (so_far.others at f) made
    ]

    touched_so_far : (s : ℕ) → s ≢ at → IsTrue (among (take (k + 1) symbols) s) → change (list_of first s) (list_of before s)
    touched_so_far s other t = elim (among_more symbols k s within t) [
      | inl a ↦ so_far.touched s a
      | inr e ↦ absurd (other (sym e ∙ here))
    ]

    -- the lists of one more symbol have changed
    pub changed_more : AreChanged change (take (k + 1) symbols) first (slice_set before at list)
    changed_more = record {
      touched = for_each (λ s l. IsTrue (among (take (k + 1) symbols) s) → change (list_of first s) l.items) (λ t. first_at) touched_so_far;
      others = for_each (λ s l. IsFalse (among (take (k + 1) symbols) s) → l.items ≡ list_of first s)
          (λ f. absurd (not_both (subst (λ j. IsTrue (among (take (k + 1) symbols) j)) here (last_among symbols k within)) f))
          (λ s other f. so_far.others s (earlier_none symbols k s within f));
    }

-- the list of one more symbol has room
pub room_more : (symbols : List ℕ) (k at : ℕ) (before : List (SmallVec ℕ)) (list : SmallVec ℕ) → at < length before → k < length symbols → get_or symbols k 0 ≡ at → HasRoomFor list 1
    → ((s : ℕ) → IsTrue (among (take k symbols) s) → HasRoomFor (list_at before s) 1) → (s : ℕ) → IsTrue (among (take (k + 1) symbols) s) → HasRoomFor (list_at (slice_set before at list) s) 1
room_more symbols k at before list below within here room so_far = for_each before at list below (λ s l. IsTrue (among (take (k + 1) symbols) s) → HasRoomFor l 1) (λ t. room) (λ s other t. elim (among_more symbols k s within t) [
  | inl a ↦ so_far s a
  | inr e ↦ absurd (other (sym e ∙ here))
])

-- the list of a symbol, where it is read
pub read_list : (lists : List (SmallVec ℕ)) (k : ℕ) (list : SmallVec ℕ) → k < length lists → list ≡ get_or lists k list → list ≡ list_at lists k
read_list [] k list l is = absurd (omega arith)
read_list (x ∷ lists) zero list l is = is
read_list (x ∷ lists) (suc k) list l is = read_list lists k list (omega arith) is
