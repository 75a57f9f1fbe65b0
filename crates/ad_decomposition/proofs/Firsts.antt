-- The elements of a list that are the same as none before them; and the place of the one that passes a test.
use Rattle.std.proofs.Common.{◌≡◌, ℕ, ◌<◌, ◌≤◌, Bool, true, false, cond, ◌||◌, not, List, [], ◌∷◌, ◌++◌, length, get_or, Some, None, IsTrue, IsFalse, ltb, sym, ◌∙◌, ap, subst, inl, inr, refl, arith}
use Rattle.std.specs.List.{filter, list_any, position, position_or_len, IsDistinct, AllByRecursion}
use Rattle.std.specs.Cmp.{IsEquivalence}
use Rattle.std.proofs.lemmas.Bool.Decides.{nat_tests}
use Rattle.std.proofs.lemmas.List.Sums.{position_or_len_is}
use Rattle.std.proofs.lemmas.List.Quantifiers.{position-Some}
use Rattle.std.proofs.lemmas.List.Elements.{filter-append}
use Rattle.std.proofs.lemmas.Map.Keys.{IsDistinct-cons, IsDistinct-head, IsDistinct-tail, apart_from_distinct}
use Rattle.ad_theory.proofs.Members.{either, false_not, Has, contains_of_has, has_filter, filter_has, has_get_or}
use Rattle.ad_decomposition.specs.Atoms.{firsts_among}

-- the place of an element that passes, where none before it does
pub position_is : {A : Type 0} (p : A → Bool) (xs : List A) (k : ℕ) (d : A) → k < length xs → IsTrue (p (get_or xs k d)) → ((j : ℕ) → j < k → IsFalse (p (get_or xs j d))) → position p xs ≡ Some k
position_is p xs k d l t f =
    let e : position_or_len p xs ≡ k = position_or_len_is p xs k d (omega arith) f (λ _. t) in
    rw e (grind (arith, nat_tests))

pub position_none : {A : Type 0} (p : A → Bool) (xs : List A) → ((a : A) → Has xs a → IsFalse (p a)) → position p xs ≡ None
position_none p [] f = refl
position_none p (x ∷ xs) f =
    let e : position_or_len p (x ∷ xs) ≡ length (x ∷ xs) = position_or_len_is p (x ∷ xs) (length (x ∷ xs)) x (omega arith) (λ k l. f _ (has_get_or (x ∷ xs) k x l)) (λ l. absurd (omega arith)) in
    rw e (grind (arith, nat_tests))

-- the place of an element at which one test passes is that at which another does, where they agree on the list
pub position_agree : {A : Type 0} (p q : A → Bool) (xs : List A) → ((a : A) → Has xs a → p a ≡ q a) → position p xs ≡ position q xs
position_agree {A} p q xs f = ap (λ n. cond (ltb n (length xs)) (Some n) None) (lengths xs f)
  where
    lengths : (ys : List A) → ((a : A) → Has ys a → p a ≡ q a) → position_or_len p ys ≡ position_or_len q ys
    lengths [] g = refl
    lengths (y ∷ ys) g = let here : p y ≡ q y = g y (inl refl) in let rest = lengths ys (λ a h. g a (inr h)) in rw (here, rest) refl

pub length-filter-le : {A : Type 0} (p : A → Bool) (xs : List A) → length (filter p xs) ≤ length xs
length-filter-le p [] = omega arith
length-filter-le p (x ∷ xs) = let rest = length-filter-le p xs in elim (either (p x)) [ inl t ↦ rw t (omega arith) | inr e ↦ rw e (omega arith) ]

all_filter : {A : Type 0} (P : A → Type 0) (p : A → Bool) (xs : List A) → AllByRecursion P xs → AllByRecursion P (filter p xs)
all_filter P p [] f = tt
all_filter P p (x ∷ xs) f = elim (either (p x)) [ inl t ↦ rw t (f.0, all_filter P p xs f.1) | inr e ↦ rw e (all_filter P p xs f.1) ]

-- each of them passes the test
all_pass : {A : Type 0} (p : A → Bool) (xs : List A) → AllByRecursion (λ y. p y ≡ false) (filter (λ y. not (p y)) xs)
all_pass p [] = tt
all_pass p (x ∷ xs) = elim (either (p x)) [ inl t ↦ rw t (all_pass p xs) | inr e ↦ rw e (e, all_pass p xs) ]

pub IsDistinct-filter : {A : Type 0} (same : A → A → Bool) (p : A → Bool) (xs : List A) → IsDistinct same xs → IsDistinct same (filter p xs)
IsDistinct-filter same p [] d = d
IsDistinct-filter same p (x ∷ xs) d =
    let rest = IsDistinct-filter same p xs (IsDistinct-tail same x xs d) in
    elim (either (p x)) [ inl t ↦ rw t (IsDistinct-cons same x (filter p xs) (all_filter _ p xs (IsDistinct-head same x xs d)) rest) | inr e ↦ rw e rest ]

module _ {A : Type 0} (same : A → A → Bool) where
  pub firsts_has : (xs : List A) (a : A) → Has (firsts_among same xs) a → Has xs a
  firsts_has [] a h = h
  firsts_has (x ∷ xs) a (inl e) = inl e
  firsts_has (x ∷ xs) a (inr h) = inr (firsts_has xs a (filter_has (λ b. not (same x b)) (firsts_among same xs) a h).0)

  -- no two of them are the same
  pub firsts_distinct : (xs : List A) → IsDistinct same (firsts_among same xs)
  unfolding IsDistinct
  firsts_distinct [] = tt
  firsts_distinct (x ∷ xs) = (all_pass (same x) (firsts_among same xs), IsDistinct-filter same (λ b. not (same x b)) (firsts_among same xs) (firsts_distinct xs))

  pub length-firsts-le : (xs : List A) → length (firsts_among same xs) ≤ length xs
  length-firsts-le [] = omega arith
  length-firsts-le (x ∷ xs) = omega (arith, length-firsts-le xs, length-filter-le (λ b. not (same x b)) (firsts_among same xs))

  -- one more element at the end is a first exactly where it is the same as none
  pub firsts-push : (xs : List A) (y : A) → firsts_among same (xs ++ y ∷ []) ≡ firsts_among same xs ++ cond (list_any (λ x. same x y) xs) [] (y ∷ [])
  firsts-push [] y = refl
  firsts-push (x ∷ xs) y =
      let new : A → Bool = λ b. not (same x b) in
      let rest : filter new (firsts_among same (xs ++ y ∷ [])) ≡ filter new (firsts_among same xs) ++ filter new (cond (list_any (λ x. same x y) xs) [] (y ∷ [])) =
      ap (filter new) (firsts-push xs y) ∙ filter-append new (firsts_among same xs) (cond (list_any (λ x. same x y) xs) [] (y ∷ [])) in
      let last : filter new (cond (list_any (λ x. same x y) xs) [] (y ∷ [])) ≡ cond (same x y || list_any (λ x. same x y) xs) [] (y ∷ []) = last_one (same x y) (list_any (λ x. same x y) xs) refl in
      ap (λ zs. x ∷ zs) (rest ∙ ap (λ zs. filter new (firsts_among same xs) ++ zs) last)
    where
      last_one : (b c : Bool) → same x y ≡ b → filter (λ z. not (same x z)) (cond c [] (y ∷ [])) ≡ cond (b || c) [] (y ∷ [])
      last_one true true e = refl
      last_one false true e = refl
      last_one true false e = rw e refl
      last_one false false e = rw e refl

  module _ (is : IsEquivalence same) where
    -- each element is the same as a first one
    pub has_first : (xs : List A) (a : A) → Has xs a → (f : A) × Has (firsts_among same xs) f × IsTrue (same f a)
    has_first [] a h = absurd h
    has_first (x ∷ xs) a (inl e) = (x, inl refl, subst (λ y. IsTrue (same x y)) (sym e) (is.refl x))
    has_first (x ∷ xs) a (inr h) =
        let r = has_first xs a h in
        elim (either (same x r.0)) [
          | inl t ↦ (x, inl refl, is.congr x r.0 a t ∙ r.2)
          | inr e ↦ (r.0, inr (has_filter (λ b. not (same x b)) (firsts_among same xs) r.0 r.1 (false_not (same x r.0) e)), r.2)
        ]

    -- what is the same as a first one has the place of that
    pub place_is : (xs : List A) (k : ℕ) (d a : A) → k < length (firsts_among same xs) → IsTrue (same (get_or (firsts_among same xs) k d) a) → position (same a) (firsts_among same xs) ≡ Some k
    place_is xs k d a l t =
        let fs : List A = firsts_among same xs in
        let here : IsTrue (same a (get_or fs k d)) = is.symm a (get_or fs k d) ∙ t in
        position_is (same a) fs k d l here
        (λ j h. is.congr a (get_or fs k d) (get_or fs j d) here ∙ is.symm (get_or fs k d) (get_or fs j d) ∙ apart_from_distinct same fs j k d (firsts_distinct xs) h l)

    pub has_place : (xs : List A) (a : A) → Has xs a → (k : ℕ) × (position (same a) (firsts_among same xs) ≡ Some k) × (k < length (firsts_among same xs))
    has_place xs a h =
        let r = has_first xs a h in
        let c = contains_of_has (firsts_among same xs) r.0 r.1 in
        (c.0, place_is xs c.0 r.0 a c.1 (subst (λ f. IsTrue (same f a)) (sym c.2) r.2), c.1)

  -- two have one place exactly where they are the same
  pub one_place : IsEquivalence same → (fs : List A) (a b : A) (k : ℕ) → position (same a) fs ≡ Some k → position (same b) fs ≡ Some k → IsTrue (same a b)
  one_place is fs a b k p q =
      let f : A = get_or fs k a in
      is.congr a f b (position-Some (same a) fs k a p).1 ∙ is.symm f b ∙ (position-Some (same b) fs k a q).1

  pub position_same : IsEquivalence same → (fs : List A) (a b : A) → IsTrue (same a b) → position (same a) fs ≡ position (same b) fs
  position_same is fs a b t = position_agree (same a) (same b) fs (λ c h. is.congr a b c t)
