-- Numbers in lists that rise.
use Rattle.std.proofs.Common.{◌≡◌, ◌<◌, ◌≤◌, ◌==◌, ◌||◌, ◌&&◌, ◌++◌, not, ℕ, zero, suc, Bool, true, false, List, [], ◌∷◌, take, drop, length, get_or, IsTrue, IsFalse, refl, sym, ap, ◌∙◌, subst, inl, inr, arith, eqb-true, eq-eqb, Less, ltb-true, ltb-false, nat_lt, ◌⊎◌}
use Rattle.std.specs.Ordering.{nat_cmp}
use Rattle.std.specs.Cmp.{nat_cmp_is, ranked}
use Rattle.std.specs.List.{AllByRecursion, list_any, insert, remove}
use Rattle.std.specs.List.Sorted.{IsStrictlySortedBy, IsBinarySearchResult}
use Rattle.std.specs.Prelude.{Ok, Err}
use Rattle.std.proofs.lemmas.List.Sorted.{searched}
use Rattle.std.proofs.lemmas.Map.Keys.{non_decreasing_from_sorted}
use Rattle.ad_theory.specs.Numbers.{among}
use Rattle.ad_theory.proofs.Members.{either, not_both, or_left, or_right, or_cases, and_right}
use Rattle.ad_slots.specs.Rising.{IsWith, IsWithout}

-- x is below each number of the list
abbrev pub IsBelowAll : ℕ → List ℕ → Type 0
IsBelowAll x xs = AllByRecursion (λ y. nat_cmp x y ≡ Less) xs

pub below_all : (x : ℕ) (xs : List ℕ) → ((m : ℕ) → IsTrue (among xs m) → nat_cmp x m ≡ Less) → IsBelowAll x xs
below_all x [] f = tt
below_all x (y ∷ xs) f = (f y (or_left (y == y) (among xs y) (eq-eqb y y refl)), below_all x xs (λ m t. f m (or_right (y == m) (among xs m) t)))

pub below_each : (x : ℕ) (xs : List ℕ) → IsBelowAll x xs → (m : ℕ) → IsTrue (among xs m) → nat_cmp x m ≡ Less
below_each x [] h m t = absurd (not_both t refl)
below_each x (y ∷ xs) h m t = elim (or_cases (y == m) (among xs m) t) [
  | inl e ↦ subst (λ k. nat_cmp x k ≡ Less) (eqb-true y m e) h.0
  | inr r ↦ below_each x xs h.1 m r
]

less : (x y : ℕ) → x < y → nat_cmp x y ≡ Less
less x y l = sym (nat_cmp_is x y Less l)

not_itself : (x : ℕ) → nat_cmp x x ≡ Less → ⊥
not_itself x e = let l : x < x = ranked x x Less (sym e) in omega arith

-- each number of the list is at a place
below_places : (x : ℕ) (xs : List ℕ) → ((k : ℕ) → k < length xs → x < get_or xs k 0) → IsBelowAll x xs
below_places x [] f = tt
below_places x (y ∷ xs) f = (less x y (f 0 (omega arith)), below_places x xs (λ k l. f (suc k) (omega arith)))

among_at : (xs : List ℕ) (i n : ℕ) → i < length xs → get_or xs i 0 ≡ n → IsTrue (among xs n)
among_at [] i n l e = absurd (omega arith)
among_at (x ∷ xs) zero n l e = or_left (x == n) (among xs n) (eq-eqb x n e)
among_at (x ∷ xs) (suc i) n l e = or_right (x == n) (among xs n) (among_at xs i n (omega arith) e)

not_among : (xs : List ℕ) (n : ℕ) → ((k : ℕ) → k < length xs → get_or xs k 0 ≡ n → ⊥) → among xs n ≡ false
not_among [] n f = refl
not_among (x ∷ xs) n f = elim (either (x == n)) [
  | inl t ↦ absurd (f 0 (omega arith) (eqb-true x n t))
  | inr h ↦ ap (λ b. b || among xs n) h ∙ not_among xs n (λ k l e. f (suc k) (omega arith) e)
]

swap_or : (a b c : Bool) → (a || (b || c)) ≡ (b || (a || c))
swap_or true true c = refl
swap_or true false c = refl
swap_or false b c = refl

or_true : (a b : Bool) → (IsTrue a → IsTrue b) → b ≡ (a || b)
or_true true b f = f refl
or_true false b f = refl

and_true : (a b : Bool) → (IsTrue a → IsFalse b) → b ≡ (not a && b)
and_true true b f = f refl
and_true false b f = refl

split_and : (a b c : Bool) → (IsTrue a → IsFalse b) → (b || (not a && c)) ≡ (not a && (b || c))
split_and true b c f = ap (λ d. d || false) (f refl)
split_and false b c f = refl

-- a number that is there already
pub there_already : (xs : List ℕ) (i n : ℕ) → IsStrictlySortedBy nat_cmp xs → i < length xs → get_or xs i 0 ≡ n → IsWith n xs xs
there_already xs i n sorted l e = record {
  rising = sorted;
  members = λ m. or_true (n == m) (among xs m) (λ t. subst (λ k. IsTrue (among xs k)) (eqb-true n m t) (among_at xs i n l e));
}

-- a number that is not there
pub not_there : (xs : List ℕ) (n : ℕ) → IsStrictlySortedBy nat_cmp xs → ((k : ℕ) → k < length xs → get_or xs k 0 ≡ n → ⊥) → IsWithout n xs xs
not_there xs n sorted f = record {
  rising = sorted;
  members = λ m. and_true (n == m) (among xs m) (λ t. subst (λ k. IsFalse (among xs k)) (eqb-true n m t) (not_among xs n f));
}

pub put_at : (xs : List ℕ) (i n : ℕ) → IsStrictlySortedBy nat_cmp xs → i ≤ length xs → ((k : ℕ) → k < i → get_or xs k 0 < n) → ((k : ℕ) → i ≤ k → k < length xs → n < get_or xs k 0) → IsWith n xs (insert xs i n)
unfolding IsStrictlySortedBy
put_at [] zero n sorted l low high = record { rising = (tt, tt); members = λ m. refl }
put_at [] (suc i) n sorted l low high = absurd (omega arith)
put_at (x ∷ xs) zero n sorted l low high = record {
  rising = (below_places n (x ∷ xs) (λ k b. high k (omega arith) b), sorted);
  members = λ m. refl;
}
put_at (x ∷ xs) (suc i) n sorted l low high =
    let rest : IsWith n xs (insert xs i n) = put_at xs i n sorted.1 (omega arith) (λ k b. low (suc k) (omega arith)) (λ k b c. high (suc k) (omega arith) (omega arith)) in
    let under : (m : ℕ) → IsTrue (among (insert xs i n) m) → nat_cmp x m ≡ Less = λ m t. elim (or_cases (n == m) (among xs m) (sym (rest.members m) ∙ t)) [
      | inl e ↦ subst (λ k. nat_cmp x k ≡ Less) (eqb-true n m e) (less x n (low 0 (omega arith)))
      | inr h ↦ below_each x xs sorted.0 m h
    ] in
    record {
      rising = (below_all x (insert xs i n) under, rest.rising);
      members = λ m. ap (λ b. (x == m) || b) (rest.members m) ∙ swap_or (x == m) (n == m) (among xs m);
    }

first_gone : (x n m : ℕ) (xs : List ℕ) → x ≡ n → (IsTrue (among xs m) → nat_cmp x m ≡ Less) → among xs m ≡ (not (n == m) && ((x == m) || among xs m))
first_gone x n m xs e below = elim (either (n == m)) [
  | inl t ↦ (
      let none : among xs m ≡ false = elim (either (among xs m)) [
        | inl a ↦ absurd (not_itself m (subst (λ k. nat_cmp k m ≡ Less) (e ∙ eqb-true n m t) (below a)))
        | inr f ↦ f
      ] in none ∙ sym (ap (λ b. not b && ((x == m) || among xs m)) t))
  | inr f ↦ sym (ap (λ b. not b && ((x == m) || among xs m)) f ∙ ap (λ b. b || among xs m) (ap (λ k. k == m) e ∙ f))
]

pub taken_at : (xs : List ℕ) (i n : ℕ) → IsStrictlySortedBy nat_cmp xs → i < length xs → get_or xs i 0 ≡ n → IsWithout n xs (remove xs i)
unfolding IsStrictlySortedBy
taken_at [] i n sorted l e = absurd (omega arith)
taken_at (x ∷ xs) zero n sorted l e = record {
  rising = sorted.1;
  members = λ m. first_gone x n m xs e (λ t. below_each x xs sorted.0 m t);
}
taken_at (x ∷ xs) (suc i) n sorted l e =
    let rest : IsWithout n xs (remove xs i) = taken_at xs i n sorted.1 (omega arith) e in
    let other : (m : ℕ) → IsTrue (n == m) → IsFalse (x == m) = λ m t. elim (either (x == m)) [
      | inl a ↦ absurd (not_itself x (subst (λ k. nat_cmp x k ≡ Less) (sym (eqb-true n m t) ∙ eqb-true n m t ∙ sym (eqb-true x m a)) (below_each x xs sorted.0 m (subst (λ k. IsTrue (among xs k)) (eqb-true n m t) (among_at xs i n (omega arith) e)))))
      | inr f ↦ f
    ] in
    record {
      rising = (below_all x (remove xs i) (λ m t. below_each x xs sorted.0 m (and_right (not (n == m)) (among xs m) (sym (rest.members m) ∙ t))), rest.rising);
      members = λ m. ap (λ b. (x == m) || b) (rest.members m) ∙ split_and (n == m) (x == m) (among xs m) (other m);
    }

split : (k i : ℕ) → (k < i) ⊎ (i ≤ k)
split k i = elim (either (nat_lt k i)) [ inl t ↦ inl (ltb-true k i t) | inr f ↦ inr (ltb-false k i f) ]

-- what a search found, and where it found nothing

module _ (xs ys : List ℕ) (n i : ℕ) (same : ys ≡ xs) (sorted : IsStrictlySortedBy nat_cmp xs) where
  rises : (k j : ℕ) → k ≤ j → j < length xs → get_or xs k 0 ≤ get_or xs j 0
  rises k j = non_decreasing_from_sorted xs sorted k j 0

  pub found_with : IsBinarySearchResult (λ y. nat_cmp y n) ys (Ok i) → IsWith n xs xs
  found_with r = let at = searched xs n (Ok i) (subst (λ zs. IsBinarySearchResult (λ y. nat_cmp y n) zs (Ok i)) same r) rises in there_already xs i n sorted at.0 at.1

  pub lost_with : IsBinarySearchResult (λ y. nat_cmp y n) ys (Err i) → IsWith n xs (insert xs i n)
  lost_with r = let at = searched xs n (Err i) (subst (λ zs. IsBinarySearchResult (λ y. nat_cmp y n) zs (Err i)) same r) rises in put_at xs i n sorted at.0 at.1 at.2

  pub found_without : IsBinarySearchResult (λ y. nat_cmp y n) ys (Ok i) → IsWithout n xs (remove xs i)
  found_without r = let at = searched xs n (Ok i) (subst (λ zs. IsBinarySearchResult (λ y. nat_cmp y n) zs (Ok i)) same r) rises in taken_at xs i n sorted at.0 at.1

  pub lost_without : IsBinarySearchResult (λ y. nat_cmp y n) ys (Err i) → IsWithout n xs xs
  lost_without r =
      let at = searched xs n (Err i) (subst (λ zs. IsBinarySearchResult (λ y. nat_cmp y n) zs (Err i)) same r) rises in
      not_there xs n sorted (λ k l e. elim (split k i) [
        | inl b ↦ (let low : get_or xs k 0 < n = at.1 k b in omega arith)
        | inr a ↦ (let high : n < get_or xs k 0 = at.2 k a l in omega arith)
      ])

-- lists that rise and have the same numbers are the same

apart : (x y : ℕ) (xs ys : List ℕ) → IsBelowAll x xs → IsBelowAll y ys → IsTrue (among (y ∷ ys) x) → IsTrue (among (x ∷ xs) y) → x ≡ y
apart x y xs ys under over t u = elim (or_cases (y == x) (among ys x) t) [
  | inl e ↦ sym (eqb-true y x e)
  | inr a ↦ elim (or_cases (x == y) (among xs y) u) [
    | inl e ↦ eqb-true x y e
    | inr b ↦ (
        let low : x < y = ranked x y Less (sym (below_each x xs under y b)) in
        let high : y < x = ranked y x Less (sym (below_each y ys over x a)) in absurd (omega arith))
  ]
]

absent : (x : ℕ) (xs : List ℕ) → IsBelowAll x xs → among xs x ≡ false
absent x xs under = elim (either (among xs x)) [ inl t ↦ absurd (not_itself x (below_each x xs under x t)) | inr f ↦ f ]

rest_same : (x m : ℕ) (xs ys : List ℕ) → IsBelowAll x xs → IsBelowAll x ys → ((x == m) || among xs m) ≡ ((x == m) || among ys m) → among xs m ≡ among ys m
rest_same x m xs ys under over same = elim (either (x == m)) [
  | inl t ↦ (let is : x ≡ m = eqb-true x m t in ap (among xs) (sym is) ∙ absent x xs under ∙ sym (absent x ys over) ∙ ap (among ys) is)
  | inr f ↦ sym (ap (λ b. b || among xs m) f) ∙ same ∙ ap (λ b. b || among ys m) f
]

pub same_rising : (xs ys : List ℕ) → IsStrictlySortedBy nat_cmp xs → IsStrictlySortedBy nat_cmp ys → ((m : ℕ) → among xs m ≡ among ys m) → xs ≡ ys
unfolding IsStrictlySortedBy
same_rising [] [] p q same = refl
same_rising [] (y ∷ ys) p q same = absurd (not_both (or_left (y == y) (among ys y) (eq-eqb y y refl)) (sym (same y)))
same_rising (x ∷ xs) [] p q same = absurd (not_both (or_left (x == x) (among xs x) (eq-eqb x x refl)) (same x))
same_rising (x ∷ xs) (y ∷ ys) p q same =
    let is : x ≡ y = apart x y xs ys p.0 q.0 (sym (same x) ∙ or_left (x == x) (among xs x) (eq-eqb x x refl)) (same y ∙ or_left (y == y) (among ys y) (eq-eqb y y refl)) in
    let over : IsBelowAll x ys = subst (λ k. IsBelowAll k ys) (sym is) q.0 in
    ap (λ k. k ∷ xs) is ∙ ap (λ l. y ∷ l) (same_rising xs ys p.1 q.1 (λ m. rest_same x m xs ys p.0 over (same m ∙ ap (λ k. (k == m) || among ys m) (sym is))))
