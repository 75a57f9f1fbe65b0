-- What is sure stays sure: each row of the locality table asks only that something be sure, so where more is
-- sure of the operands, no less is sure of the whole.
use Rattle.std.proofs.Common.{◌≡◌, ℕ, Bool, true, false, cond, ◌&&◌, ◌||◌, List, [], ◌∷◌, length, map, IsTrue, nat_eq, subst, sym, refl}
use Rattle.std.proofs.lemmas.List.{length-map}
use Rattle.std.specs.List.{AllByRecursion, list_any}
use Rattle.ad_locality.specs.Columns.{everything}
use Rattle.ad_locality.specs.Locality.{intersection, union, complement, some_of, all_of, at_least, at_most, exactly, all_empty, all_whole, one_is_nonempty, are_equivalent, are_disjoint, one_is_whole, both_or_neither}
use Rattle.ad_locality.specs.declared.surely.Surely.{Surely}
use Rattle.ad_theory.proofs.Members.{and_intro, and_left, and_right, or_left, or_right}

-- b is true where a is
pub record IsLess (a b : Bool) : Type 0 where
  pub holds : IsTrue a → IsTrue b

-- what is sure by a is sure by b
pub record IsBelow (a b : Surely) : Type 0 where
  pub empty : IsLess a.empty b.empty
  pub whole : IsLess a.whole b.whole
  pub nonempty : IsLess a.nonempty b.nonempty

pub less_refl : (a : Bool) → IsLess a a
less_refl a = record { holds = λ h. h }

pub less_or : {a b c d : Bool} → IsLess a b → IsLess c d → IsLess (a || c) (b || d)
less_or {a} {b} {c} {d} f g = elim a as (λ z. IsLess z b → IsLess (z || c) (b || d)) [ true ↦ (λ f. record { holds = λ h. or_left b d (f.holds refl) }) | false ↦ (λ f. record { holds = λ h. or_right b d (g.holds h) }) ] f

pub less_and : {a b c d : Bool} → IsLess a b → IsLess c d → IsLess (a && c) (b && d)
less_and {a} {b} {c} {d} f g = record { holds = λ h. and_intro b d (f.holds (and_left a c h)) (g.holds (and_right a c h)) }

pub below_refl : (a : Surely) → IsBelow a a
below_refl a = record { empty = less_refl a.empty; whole = less_refl a.whole; nonempty = less_refl a.nonempty }

pub below_along : {a b c d : Surely} → a ≡ b → c ≡ d → IsBelow b d → IsBelow a c
below_along {a} {b} {c} {d} e f h = subst (λ z. IsBelow z c) (sym e) (subst (IsBelow b) (sym f) h)

below_cond : {a b c d : Surely} (t : Bool) → IsBelow a b → IsBelow c d → IsBelow (cond t a c) (cond t b d)
below_cond true h k = h
below_cond false h k = k

pub complement_below : {a b : Surely} → IsBelow a b → IsBelow (complement a) (complement b)
complement_below h = record { empty = h.whole; whole = h.empty; nonempty = h.empty }

pub some_of_below : {r s c d : Surely} → IsBelow r s → IsBelow c d → IsBelow (some_of r c) (some_of s d)
some_of_below h k = record { empty = less_or h.empty k.empty; whole = less_and h.whole k.nonempty; nonempty = less_and h.whole k.nonempty }

pub all_of_below : {r s c d : Surely} → IsBelow r s → IsBelow c d → IsBelow (all_of r c) (all_of s d)
all_of_below h k = record { empty = less_and h.whole k.empty; whole = less_or h.empty k.whole; nonempty = less_or h.empty k.whole }

pub at_least_below : {r s c d : Surely} (n : ℕ) → IsBelow r s → IsBelow c d → IsBelow (at_least n r c) (at_least n s d)
at_least_below n h k =
    let all = less_and (less_refl (nat_eq n 1)) (less_and h.whole k.nonempty) in
    below_cond (nat_eq n 0) (below_refl everything) (record { empty = less_or h.empty k.empty; whole = all; nonempty = all })

pub at_most_below : {r s c d : Surely} (n : ℕ) → IsBelow r s → IsBelow c d → IsBelow (at_most n r c) (at_most n s d)
at_most_below n h k = record { empty = less_and (less_refl (nat_eq n 0)) (less_and h.whole k.nonempty); whole = less_or h.empty k.empty; nonempty = less_or h.empty k.empty }

pub exactly_below : {r s c d : Surely} (n : ℕ) → IsBelow r s → IsBelow c d → IsBelow (exactly n r c) (exactly n s d)
exactly_below n h k = below_cond (nat_eq n 0) (at_most_below 0 h k) (record { empty = less_or h.empty k.empty; whole = less_refl false; nonempty = less_refl false })

pub both_or_neither_less : {r s c d : Surely} → IsBelow r s → IsBelow c d → IsLess (both_or_neither r c) (both_or_neither s d)
both_or_neither_less h k = less_or (less_and h.empty k.empty) (less_and h.whole k.whole)

-- several operands
module _ {X : Type 0} (f g : X → Surely) where
  pub any_empty_less : (xs : List X) → AllByRecursion (λ x. IsBelow (f x) (g x)) xs → IsLess (list_any (λ c. c.empty) (map f xs)) (list_any (λ c. c.empty) (map g xs))
  any_empty_less [] h = less_refl false
  any_empty_less (x ∷ xs) h = less_or h.0.empty (any_empty_less xs h.1)

  pub any_whole_less : (xs : List X) → AllByRecursion (λ x. IsBelow (f x) (g x)) xs → IsLess (list_any (λ c. c.whole) (map f xs)) (list_any (λ c. c.whole) (map g xs))
  any_whole_less [] h = less_refl false
  any_whole_less (x ∷ xs) h = less_or h.0.whole (any_whole_less xs h.1)

  pub all_empty_less : (xs : List X) → AllByRecursion (λ x. IsBelow (f x) (g x)) xs → IsLess (all_empty (map f xs)) (all_empty (map g xs))
  all_empty_less [] h = less_refl true
  all_empty_less (x ∷ xs) h = less_and h.0.empty (all_empty_less xs h.1)

  pub all_whole_less : (xs : List X) → AllByRecursion (λ x. IsBelow (f x) (g x)) xs → IsLess (all_whole (map f xs)) (all_whole (map g xs))
  all_whole_less [] h = less_refl true
  all_whole_less (x ∷ xs) h = less_and h.0.whole (all_whole_less xs h.1)

  pub any_nonempty_less : (xs : List X) → AllByRecursion (λ x. IsBelow (f x) (g x)) xs → IsLess (list_any (λ c. c.nonempty) (map f xs)) (list_any (λ c. c.nonempty) (map g xs))
  any_nonempty_less [] h = less_refl false
  any_nonempty_less (x ∷ xs) h = less_or h.0.nonempty (any_nonempty_less xs h.1)

  pub one_is_nonempty_less : (xs : List X) → AllByRecursion (λ x. IsBelow (f x) (g x)) xs → IsLess (one_is_nonempty (map f xs)) (one_is_nonempty (map g xs))
  one_is_nonempty_less [] h = less_refl false
  one_is_nonempty_less (x ∷ xs) h = less_or (less_and h.0.nonempty (all_whole_less xs h.1)) (less_and h.0.whole (one_is_nonempty_less xs h.1))

  pub one_is_whole_less : (xs : List X) → AllByRecursion (λ x. IsBelow (f x) (g x)) xs → IsLess (one_is_whole (map f xs)) (one_is_whole (map g xs))
  one_is_whole_less [] h = less_refl false
  one_is_whole_less (x ∷ xs) h = less_or (less_and h.0.whole (all_empty_less xs h.1)) (less_and h.0.empty (one_is_whole_less xs h.1))

  pub intersection_below : (xs : List X) → AllByRecursion (λ x. IsBelow (f x) (g x)) xs → IsBelow (intersection (map f xs)) (intersection (map g xs))
  intersection_below xs h = record { empty = any_empty_less xs h; whole = all_whole_less xs h; nonempty = one_is_nonempty_less xs h }

  pub union_below : (xs : List X) → AllByRecursion (λ x. IsBelow (f x) (g x)) xs → IsBelow (union (map f xs)) (union (map g xs))
  union_below xs h = record { empty = all_empty_less xs h; whole = any_whole_less xs h; nonempty = any_nonempty_less xs h }

  pub are_equivalent_less : (xs : List X) → AllByRecursion (λ x. IsBelow (f x) (g x)) xs → IsLess (are_equivalent (map f xs)) (are_equivalent (map g xs))
  are_equivalent_less xs h = less_or (less_or (all_empty_less xs h) (all_whole_less xs h)) (rw (length-map xs f, length-map xs g) (less_refl (nat_eq (length xs) 1)))

-- operands that are all empty are disjoint
disjoint_of_empty : (cs : List Surely) → IsTrue (all_empty cs) → IsTrue (are_disjoint cs)
disjoint_of_empty [] h = refl
disjoint_of_empty (c ∷ cs) h = rw (and_left c.empty _ h) (disjoint_of_empty cs (and_right c.empty _ h))

disjoint_step : (a b : Surely) (rest more : List Surely) → IsLess a.empty b.empty → IsLess (all_empty rest) (all_empty more) → IsLess (are_disjoint rest) (are_disjoint more) → IsLess (are_disjoint (a ∷ rest)) (are_disjoint (b ∷ more))
disjoint_step a b rest more h k m = cases a.empty b.empty h
  where
    cases : (x y : Bool) → IsLess x y → IsLess (cond x (are_disjoint rest) (all_empty rest)) (cond y (are_disjoint more) (all_empty more))
    cases true true h = m
    cases true false h = absurd (let e : false ≡ true = h.holds refl in cc)
    cases false true h = record { holds = λ t. disjoint_of_empty more (k.holds t) }
    cases false false h = k

module _ {X : Type 0} (f g : X → Surely) where
  pub are_disjoint_less : (xs : List X) → AllByRecursion (λ x. IsBelow (f x) (g x)) xs → IsLess (are_disjoint (map f xs)) (are_disjoint (map g xs))
  are_disjoint_less [] h = less_refl true
  are_disjoint_less (x ∷ xs) h = disjoint_step (f x) (g x) (map f xs) (map g xs) h.0.empty (all_empty_less f g xs h.1) (are_disjoint_less xs h.1)
