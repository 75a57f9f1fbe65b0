-- Which axioms depend on which, by the members of genuine modules; and that this is an order.
use Rattle.std.proofs.Common.{◌≡◌, Bool, ◌||◌, not, List, [], ◌∷◌, IsTrue, sym, ◌∙◌, inl, inr, refl, subst}
use Rattle.std.specs.List.{Contains, list_all}
use Rattle.std.specs.Cmp.{IsEquivalence, both_ways}
use Rattle.ad_theory.proofs.Members.{either, not_both, or_left, or_right, or_cases, and_intro, and_left, and_right, not_true, false_not, Has, has_of_contains, contains_of_has}
use Rattle.ad_decomposition.specs.Atoms.{depends, same_module, depends_strictly}
use Rattle.ad_decomposition.specs.Tables.{AreNested}

pub all_of_has : {A : Type 0} (p : A → Bool) (xs : List A) → IsTrue (list_all p xs) → (a : A) → Has xs a → IsTrue (p a)
all_of_has p [] t a h = absurd h
all_of_has p (x ∷ xs) t a (inl e) = subst (λ y. IsTrue (p y)) (sym e) (and_left (p x) (list_all p xs) t)
all_of_has p (x ∷ xs) t a (inr h) = all_of_has p xs (and_right (p x) (list_all p xs) t) a h

has_of_all : {A : Type 0} (p : A → Bool) (xs : List A) → ((a : A) → Has xs a → IsTrue (p a)) → IsTrue (list_all p xs)
has_of_all p [] f = refl
has_of_all p (x ∷ xs) f = and_intro (p x) (list_all p xs) (f x (inl refl)) (has_of_all p xs (λ a h. f a (inr h)))

module _ {A : Type 0} (G : A → A → Bool) (order : List A) where
  pub depends_members : (a b : A) → IsTrue (depends G order a b) → (c : A) → Contains order c → IsTrue (G b c) → IsTrue (G a c)
  depends_members a b t c o h = elim (or_cases (not (G b c)) (G a c) (all_of_has (λ c. not (G b c) || G a c) order t c (has_of_contains order c o))) [
    | inl n ↦ absurd (not_both h (not_true (G b c) n))
    | inr g ↦ g
  ]

  pub members_depend : (a b : A) → ((c : A) → Contains order c → IsTrue (G b c) → IsTrue (G a c)) → IsTrue (depends G order a b)
  members_depend a b f = has_of_all (λ c. not (G b c) || G a c) order (λ c h. elim (either (G b c)) [
    | inl t ↦ or_right (not (G b c)) (G a c) (f c (contains_of_has order c h) t)
    | inr e ↦ or_left (not (G b c)) (G a c) (false_not (G b c) e)
  ])

  pub depends_itself : (a : A) → IsTrue (depends G order a a)
  depends_itself a = members_depend a a (λ c o h. h)

  pub depends_trans : (a b c : A) → IsTrue (depends G order a b) → IsTrue (depends G order b c) → IsTrue (depends G order a c)
  depends_trans a b c s t = members_depend a c (λ d o h. depends_members a b s d o (depends_members b c t d o h))

  pub same_intro : (a b : A) → IsTrue (depends G order a b) → IsTrue (depends G order b a) → IsTrue (same_module G order a b)
  same_intro a b s t = and_intro (depends G order a b) (depends G order b a) s t

  pub same_down : (a b : A) → IsTrue (same_module G order a b) → IsTrue (depends G order a b)
  same_down a b t = and_left (depends G order a b) (depends G order b a) t

  pub same_up : (a b : A) → IsTrue (same_module G order a b) → IsTrue (depends G order b a)
  same_up a b t = and_right (depends G order a b) (depends G order b a) t

  same_turn : (a b : A) → IsTrue (same_module G order a b) → IsTrue (same_module G order b a)
  same_turn a b t = same_intro b a (same_up a b t) (same_down a b t)

  same_trans : (a b c : A) → IsTrue (same_module G order a b) → IsTrue (same_module G order b c) → IsTrue (same_module G order a c)
  same_trans a b c s t = same_intro a c (depends_trans a b c (same_down a b s) (same_down b c t)) (depends_trans c b a (same_up b c t) (same_up a b s))

  pub same_equivalence : IsEquivalence (same_module G order)
  same_equivalence = record {
    refl = λ a. same_intro a a (depends_itself a) (depends_itself a);
    symm = λ a b. both_ways (same_module G order a b) (same_module G order b a) (same_turn a b) (same_turn b a);
    congr = λ a b c t. both_ways (same_module G order a c) (same_module G order b c) (same_trans b a c (same_turn a b t)) (same_trans a b c t);
  }

  -- the same modules have the same axioms
  pub same_members : (a b : A) → IsTrue (same_module G order a b) → (c : A) → Contains order c → G a c ≡ G b c
  same_members a b t c o = both_ways (G a c) (G b c) (depends_members b a (same_up a b t) c o) (depends_members a b (same_down a b t) c o)

  pub members_same : (a b : A) → ((c : A) → Contains order c → G a c ≡ G b c) → IsTrue (same_module G order a b)
  members_same a b f = same_intro a b (members_depend a b (λ c o h. f c o ∙ h)) (members_depend b a (λ c o h. sym (f c o) ∙ h))

  -- strict dependency
  pub strictly_intro : (a b : A) → IsTrue (depends G order a b) → ¬ IsTrue (depends G order b a) → IsTrue (depends_strictly G order a b)
  strictly_intro a b t n = and_intro (depends G order a b) (not (depends G order b a)) t (elim (either (depends G order b a)) [ inl s ↦ absurd (n s) | inr e ↦ false_not (depends G order b a) e ])

  pub strictly_down : (a b : A) → IsTrue (depends_strictly G order a b) → IsTrue (depends G order a b)
  strictly_down a b t = and_left (depends G order a b) (not (depends G order b a)) t

  pub strictly_not_up : (a b : A) → IsTrue (depends_strictly G order a b) → IsTrue (depends G order b a) → ⊥
  strictly_not_up a b t s = not_both s (not_true (depends G order b a) (and_right (depends G order a b) (not (depends G order b a)) t))

  -- it is the same for an axiom of the same atom
  pub strictly_same_right : (a b c : A) → IsTrue (depends_strictly G order a b) → IsTrue (same_module G order c b) → IsTrue (depends_strictly G order a c)
  strictly_same_right a b c t s = strictly_intro a c (depends_trans a b c (strictly_down a b t) (same_up c b s)) (λ u. strictly_not_up a b t (depends_trans b c a (same_up c b s) u))

  pub strictly_same_left : (a b c : A) → IsTrue (depends_strictly G order a b) → IsTrue (same_module G order c a) → IsTrue (depends_strictly G order c b)
  strictly_same_left a b c t s = strictly_intro c b (depends_trans c a b (same_down c a s) (strictly_down a b t)) (λ u. strictly_not_up a b t (depends_trans b c a u (same_down c a s)))

  -- where modules nest, dependency is membership
  module _ (nest : AreNested G order) where
    pub depends_member : (a b : A) → Contains order b → IsTrue (G b b) → IsTrue (depends G order a b) → IsTrue (G a b)
    depends_member a b o h t = depends_members a b t b o h

    pub member_depends : (a b : A) → Contains order a → IsTrue (G a b) → IsTrue (depends G order a b)
    member_depends a b o h = members_depend a b (λ c _ k. nest.nested a b c o h k)
