-- What standing in a place means for what is added, taken out and looked up.
use Rattle.std.proofs.Common.{◌≡◌, ℕ, suc, zero, ◌+◌, ◌<◌, ◌≤◌, Bool, true, false, not, cond, ◌||◌, List, [], ◌∷◌, ◌++◌, Option, Some, nat_eq, length, get_or, refl, ap, sym, ◌∙◌, arith, subst, rules}
use Rattle.std.specs.List.{filter, list_any}
use Rattle.std.specs.Cmp.{IsEquivalence}
use Rattle.ad_apply.specs.declared.places.Place.{Place}
use Rattle.ad_apply.specs.declared.places.Place.TheVariants as places
use Rattle.ad_apply.specs.Places.{is_here, here_from, Sits}

nat_eq-same : (n : ℕ) → nat_eq n n ≡ true
nat_eq-same n = search rules

nat_eq-apart : (n k : ℕ) → k < n → nat_eq n k ≡ false
nat_eq-apart n k l = grind arith

place_number : (i j : ℕ) → Some (places.At i) ≡ Some (places.At j) → i ≡ j
place_number i j e = cc

module _ {X : Type 0} where
  -- what stands here or not, in front of others
  any_front : (t : X → Bool) (h : Bool) (x : X) (xs : List X) → t x ≡ false → list_any t xs ≡ false → list_any t (cond h (x ∷ xs) xs) ≡ false
  any_front t true x xs e f = rw e f
  any_front t false x xs e f = f

  any_behind : (t : X → Bool) (h : Bool) (x : X) (xs : List X) → list_any t xs ≡ true → list_any t (cond h (x ∷ xs) xs) ≡ true
  any_behind t true x xs f = elim (t x) as (λ v. (v || list_any t xs) ≡ true) [ true ↦ refl | false ↦ f ]
  any_behind t false x xs f = f

  filter_drops : (keep : X → Bool) (h : Bool) (x : X) (xs : List X) → keep x ≡ false → filter keep (cond h (x ∷ xs) xs) ≡ filter keep xs
  filter_drops keep true x xs e = rw e
  filter_drops keep false x xs e = refl

  filter_keeps : (keep : X → Bool) (h : Bool) (x : X) (xs : List X) → keep x ≡ true → filter keep (cond h (x ∷ xs) xs) ≡ cond h (x ∷ filter keep xs) (filter keep xs)
  filter_keeps keep true x xs e = rw e
  filter_keeps keep false x xs e = refl

  push_front : (h : Bool) (x a : X) (xs : List X) → cond h (x ∷ (xs ++ a ∷ [])) (xs ++ a ∷ []) ≡ cond h (x ∷ xs) xs ++ a ∷ []
  push_front true x a xs = refl
  push_front false x a xs = refl

  -- where all stand in their places, the list is as it was
  pub here_whole : (place : X → Option Place) (k : ℕ) (xs : List X) → ((j n : ℕ) (d : X) → j < length xs → n ≡ k + j → is_here (place (get_or xs j d)) n ≡ true) → here_from place k xs ≡ xs
  here_whole place k [] all = refl
  here_whole place k (x ∷ xs) all =
      rw (all 0 k x (omega arith) (omega arith))
      (ap (λ ys. x ∷ ys) (here_whole place (suc k) xs (λ j n d l e. all (suc j) n d (omega arith) (omega arith))))

  -- what stands in the places of two lists, one behind the other
  pub here_from-append : (place : X → Option Place) (k n : ℕ) (xs ys : List X) → n ≡ k + length xs → here_from place k (xs ++ ys) ≡ here_from place k xs ++ here_from place n ys
  here_from-append place k n [] ys e = ap (λ i. here_from place i ys) (let same : k ≡ n = omega arith in same)
  here_from-append place k n (x ∷ xs) ys e =
      let rest = here_from-append place (suc k) n xs ys (omega arith) in
      elim (is_here (place x) k) as (λ h. cond h (x ∷ here_from place (suc k) (xs ++ ys)) (here_from place (suc k) (xs ++ ys)) ≡ cond h (x ∷ here_from place (suc k) xs) (here_from place (suc k) xs) ++ here_from place n ys) [
        | true ↦ ap (λ zs. x ∷ zs) rest
        | false ↦ rest
      ]

module _ {X : Type 0} (same : X → X → Bool) (laws : IsEquivalence same) where
  -- equal ones have the same entry
  abbrev pub Agrees : (X → Option Place) → Type 0
  Agrees place = (x y : X) → same x y ≡ true → place x ≡ place y

  -- one that is said to be absent is not among those that stand in their places
  pub absent_has : (place : X → Option Place) (a : X) → Agrees place → place a ≡ Some places.Absent → (k : ℕ) (xs : List X) → list_any (λ b. same b a) (here_from place k xs) ≡ false
  absent_has place a agrees absent k [] = refl
  absent_has place a agrees absent k (x ∷ xs) =
      let rest = absent_has place a agrees absent (suc k) xs in
      elim (same x a) as (λ s. same x a ≡ s → list_any (λ b. same b a) (here_from place k (x ∷ xs)) ≡ false) [
        | true ↦ λ e. rw (agrees x a e ∙ absent) rest
        | false ↦ λ e. any_front (λ b. same b a) (is_here (place x) k) x (here_from place (suc k) xs) e rest
      ] refl

  -- one that stands in its place is among them
  pub here_has : (place : X → Option Place) (a : X) (k : ℕ) (xs : List X) (j n : ℕ) → j < length xs → n ≡ k + j → same (get_or xs j a) a ≡ true → is_here (place (get_or xs j a)) n ≡ true → list_any (λ b. same b a) (here_from place k xs) ≡ true
  here_has place a k [] j n l e s h = absurd (omega arith)
  here_has place a k (x ∷ xs) zero n l e s h =
      let at_k : is_here (place x) k ≡ true = subst (λ i. is_here (place x) i ≡ true) (let same : n ≡ k = omega arith in same) h in
      rw at_k (rw s refl)
  here_has place a k (x ∷ xs) (suc j) n l e s h =
      any_behind (λ b. same b a) (is_here (place x) k) x (here_from place (suc k) xs) (here_has place a (suc k) xs j n (omega arith) (omega arith) s h)

  -- what changes in the entries where one thing gets an entry
  abbrev pub Changes : (X → Option Place) → (X → Option Place) → X → Place → Type 0
  Changes place new a p = (x : X) → new x ≡ cond (same a x) (Some p) (place x)

  -- taking one out
  pub here_removed : (place new : X → Option Place) (a : X) → Changes place new a places.Absent → (k : ℕ) (xs : List X) → here_from new k xs ≡ filter (λ b. not (same b a)) (here_from place k xs)
  here_removed place new a changes k [] = refl
  here_removed place new a changes k (x ∷ xs) =
      let rest = here_removed place new a changes (suc k) xs in
      let keep : X → Bool = λ b. not (same b a) in
      elim (same a x) as (λ s. same a x ≡ s → here_from new k (x ∷ xs) ≡ filter keep (here_from place k (x ∷ xs))) [
        | true ↦ λ e.
            let out : keep x ≡ false = ap not (laws.symm x a ∙ e) in
            let gone : new x ≡ Some places.Absent = changes x ∙ ap (λ s. cond s (Some places.Absent) (place x)) e in
            rw gone (rest ∙ sym (filter_drops keep (is_here (place x) k) x (here_from place (suc k) xs) out))
        | false ↦ λ e.
            let stays : keep x ≡ true = ap not (laws.symm x a ∙ e) in
            let kept : new x ≡ place x = changes x ∙ ap (λ s. cond s (Some places.Absent) (place x)) e in
            rw (kept, rest) (sym (filter_keeps keep (is_here (place x) k) x (here_from place (suc k) xs) stays))
      ] refl

  -- adding one that is absent, at the end
  pub here_added : (place new : X → Option Place) (a : X) (n : ℕ) → Agrees place → place a ≡ Some places.Absent → Changes place new a (places.At n) → (k : ℕ) (xs : List X) → n ≡ k + length xs → here_from new k (xs ++ a ∷ []) ≡ here_from place k xs ++ a ∷ []
  here_added place new a n agrees absent changes k [] e =
      let at_end : new a ≡ Some (places.At n) = changes a ∙ ap (λ s. cond s (Some (places.At n)) (place a)) (laws.refl a) in
      rw (at_end, (let same_place : nat_eq n k ≡ true = subst (λ i. nat_eq n i ≡ true) (let s : n ≡ k = omega arith in s) (nat_eq-same n) in same_place))
  here_added place new a n agrees absent changes k (x ∷ xs) e =
      let rest = here_added place new a n agrees absent changes (suc k) xs (omega arith) in
      elim (same a x) as (λ s. same a x ≡ s → here_from new k ((x ∷ xs) ++ a ∷ []) ≡ here_from place k (x ∷ xs) ++ a ∷ []) [
        | true ↦ λ e'.
            let was : place x ≡ Some places.Absent = sym (agrees a x e') ∙ absent in
            let now : new x ≡ Some (places.At n) = changes x ∙ ap (λ s. cond s (Some (places.At n)) (place x)) e' in
            rw (now, nat_eq-apart n k (omega arith), was) rest
        | false ↦ λ e'.
            let kept : new x ≡ place x = changes x ∙ ap (λ s. cond s (Some (places.At n)) (place x)) e' in
            rw (kept, rest) (push_front (is_here (place x) k) x a (here_from place (suc k) xs))
      ] refl

  -- what is said of places stays true
  pub Sits-removed : (place new : X → Option Place) (a : X) (xs : List X) → Changes place new a places.Absent → Sits same place xs → Sits same new xs
  Sits-removed place new a xs changes sits x i is =
      elim (same a x) as (λ s. same a x ≡ s → (i < length xs) × (same (get_or xs i x) x ≡ true)) [
        | true ↦ λ e.
            let gone : new x ≡ Some places.Absent = changes x ∙ ap (λ s. cond s (Some places.Absent) (place x)) e in
            absurd (let no : Some places.Absent ≡ Some (places.At i) = sym gone ∙ is in cc)
        | false ↦ λ e.
            let kept : new x ≡ place x = changes x ∙ ap (λ s. cond s (Some places.Absent) (place x)) e in
            sits x i (sym kept ∙ is)
      ] refl

  pub Sits-added : (place new : X → Option Place) (a : X) (n : ℕ) (xs ys : List X) → Changes place new a (places.At n) → Sits same place xs → n < length ys → ((d : X) → get_or ys n d ≡ a) → length xs ≤ length ys → ((i : ℕ) (d : X) → i < length xs → get_or ys i d ≡ get_or xs i d) → Sits same new ys
  Sits-added place new a n xs ys changes sits within at_n longer front x i is =
      elim (same a x) as (λ s. same a x ≡ s → (i < length ys) × (same (get_or ys i x) x ≡ true)) [
        | true ↦ λ e.
            let now : new x ≡ Some (places.At n) = changes x ∙ ap (λ s. cond s (Some (places.At n)) (place x)) e in
            let at : n ≡ i = place_number n i (sym now ∙ is) in
            subst (λ j. (j < length ys) × (same (get_or ys j x) x ≡ true)) at (within, rw (at_n x) e)
        | false ↦ λ e.
            let kept : new x ≡ place x = changes x ∙ ap (λ s. cond s (Some (places.At n)) (place x)) e in
            let sat = sits x i (sym kept ∙ is) in
            (omega (arith, sat.0), rw (front i x sat.0) sat.1)
      ] refl
