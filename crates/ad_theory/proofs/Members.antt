-- Members of lists: by recursion, as lemmas use them, and by place, as clauses say it.
use Rattle.std.proofs.Common.{◌≡◌, ℕ, zero, suc, ◌<◌, Bool, true, false, cond, ◌⊎◌, ◌||◌, ◌&&◌, not, List, [], ◌∷◌, length, get_or, IsTrue, IsFalse, sym, ◌∙◌, ap, subst, inl, inr, refl, le_of_suc-le-suc, suc-le-suc, not-suc-le-zero, zero-lt-suc}
use Rattle.std.specs.List.{Contains, filter, list_any, IsDistinct, AllByRecursion}
use Rattle.ad_theory.specs.Listed.{IsSublist, IsEqualityTest}

pub either : (b : Bool) → IsTrue b ⊎ IsFalse b
either = elim [ true ↦ inl refl | false ↦ inr refl ]

pub not_both : {b : Bool} → IsTrue b → IsFalse b → ⊥
not_both t f = cc

pub or_left : (a b : Bool) → IsTrue a → IsTrue (a || b)
or_left a b h = rw h refl

pub or_right : (a b : Bool) → IsTrue b → IsTrue (a || b)
or_right true b h = refl
or_right false b h = h

pub or_cases : (a b : Bool) → IsTrue (a || b) → IsTrue a ⊎ IsTrue b
or_cases true b h = inl refl
or_cases false b h = inr h

pub and_intro : (a b : Bool) → IsTrue a → IsTrue b → IsTrue (a && b)
and_intro a b h k = rw (h, k) refl

pub and_left : (a b : Bool) → IsTrue (a && b) → IsTrue a
and_left true b h = refl
and_left false b h = h

pub and_right : (a b : Bool) → IsTrue (a && b) → IsTrue b
and_right true b h = h
and_right false b h = absurd (not_both h refl)

pub not_true : (b : Bool) → IsTrue (not b) → IsFalse b
not_true true h = absurd (not_both h refl)
not_true false h = refl

pub false_not : (b : Bool) → IsFalse b → IsTrue (not b)
false_not b h = rw h refl

-- a is an element of the list, by recursion
abbrev pub Has : {A : Type 0} → List A → A → Type 0
Has [] a = ⊥
Has (x ∷ xs) a = (a ≡ x) ⊎ Has xs a

has_at : {A : Type 0} (xs : List A) (a : A) (k : ℕ) → k < length xs → get_or xs k a ≡ a → Has xs a
has_at [] a k l e = absurd (not-suc-le-zero l)
has_at (x ∷ xs) a zero l e = inl (sym e)
has_at (x ∷ xs) a (suc k) l e = inr (has_at xs a k (le_of_suc-le-suc l) e)

pub has_of_contains : {A : Type 0} (xs : List A) (a : A) → Contains xs a → Has xs a
has_of_contains xs a c = has_at xs a c.0 c.1 c.2

pub contains_of_has : {A : Type 0} (xs : List A) (a : A) → Has xs a → Contains xs a
contains_of_has [] a h = absurd h
contains_of_has (x ∷ xs) a (inl e) = (0, zero-lt-suc _, sym e)
contains_of_has (x ∷ xs) a (inr h) = let c = contains_of_has xs a h in (suc c.0, suc-le-suc c.1, c.2)

-- the element at a place
pub has_get_or : {A : Type 0} (xs : List A) (k : ℕ) (d : A) → k < length xs → Has xs (get_or xs k d)
has_get_or [] k d l = absurd (not-suc-le-zero l)
has_get_or (x ∷ xs) zero d l = inl refl
has_get_or (x ∷ xs) (suc k) d l = inr (has_get_or xs k d (le_of_suc-le-suc l))

pub any_of_has : {A : Type 0} (p : A → Bool) (xs : List A) (a : A) → Has xs a → IsTrue (p a) → IsTrue (list_any p xs)
any_of_has p [] a h t = absurd h
any_of_has p (x ∷ xs) a (inl e) t = or_left (p x) (list_any p xs) (subst (λ y. IsTrue (p y)) e t)
any_of_has p (x ∷ xs) a (inr h) t = or_right (p x) (list_any p xs) (any_of_has p xs a h t)

pub has_of_any : {A : Type 0} (p : A → Bool) (xs : List A) → IsTrue (list_any p xs) → (a : A) × Has xs a × IsTrue (p a)
has_of_any p [] t = absurd (not_both t refl)
has_of_any {A} p (x ∷ xs) t = elim (or_cases (p x) (list_any p xs) t) [ inl h ↦ (x, inl refl, h) | inr h ↦ let r = has_of_any p xs h in (r.0, inr r.1, r.2) ]

pub has_filter : {A : Type 0} (p : A → Bool) (xs : List A) (a : A) → Has xs a → IsTrue (p a) → Has (filter p xs) a
has_filter p [] a h t = absurd h
has_filter p (x ∷ xs) a (inl e) t = let px : p x ≡ true = subst (λ y. IsTrue (p y)) e t in rw px (inl e)
has_filter {A} p (x ∷ xs) a (inr h) t = let rest = has_filter p xs a h t in
    elim (p x) as (λ b. Has (cond b (x ∷ filter p xs) (filter p xs)) a) [ true ↦ inr rest | false ↦ rest ]

pub filter_has : {A : Type 0} (p : A → Bool) (xs : List A) (a : A) → Has (filter p xs) a → Has xs a × IsTrue (p a)
filter_has p [] a h = absurd h
filter_has {A} p (x ∷ xs) a h = elim (either (p x)) [
  | inl t ↦ (let h' : Has (x ∷ filter p xs) a = rw t at h in elim h' [ inl e ↦ (inl e, subst (λ y. IsTrue (p y)) (sym e) t) | inr r ↦ let q = filter_has p xs a r in (inr q.0, q.1) ])
  | inr f ↦ (let h' : Has (filter p xs) a = rw f at h in let q = filter_has p xs a h' in (inr q.0, q.1))
]

-- two tests that agree at the elements keep the same elements
pub filter_same : {A : Type 0} (p q : A → Bool) (xs : List A) → ((a : A) → Has xs a → IsTrue (p a) → IsTrue (q a)) → ((a : A) → Has xs a → IsTrue (q a) → IsTrue (p a)) → filter p xs ≡ filter q xs
filter_same p q [] f g = refl
filter_same p q (x ∷ xs) f g =
    let rest : filter p xs ≡ filter q xs = filter_same p q xs (λ a h. f a (inr h)) (λ a h. g a (inr h)) in
    elim (either (p x)) [
      | inl t ↦ (let t' : q x ≡ true = f x (inl refl) t in rw (t, t', rest) refl)
      | inr e ↦ elim (either (q x)) [ inl t ↦ absurd (not_both (g x (inl refl) t) e) | inr e' ↦ rw (e, e', rest) refl ]
    ]

-- a filter over what a weaker one keeps
pub filter-filter : {A : Type 0} (p q : A → Bool) (xs : List A) → ((a : A) → IsTrue (p a) → IsTrue (q a)) → filter p (filter q xs) ≡ filter p xs
filter-filter p q [] f = refl
filter-filter p q (x ∷ xs) f = let rest : filter p (filter q xs) ≡ filter p xs = filter-filter p q xs f in
    elim (either (q x)) [
      | inl t ↦ rw t (elim (p x) as (λ b. cond b (x ∷ filter p (filter q xs)) (filter p (filter q xs)) ≡ cond b (x ∷ filter p xs) (filter p xs)) [ true ↦ ap (λ l. x ∷ l) rest | false ↦ rest ])
      | inr n ↦ (let out : p x ≡ false = elim (either (p x)) [ inr e ↦ e | inl t ↦ absurd (not_both (f x t) n) ] in rw (n, out) rest)
    ]

-- a filter that every element passes
pub filter_all : {A : Type 0} (p : A → Bool) (xs : List A) → ((a : A) → Has xs a → IsTrue (p a)) → filter p xs ≡ xs
filter_all p [] f = refl
filter_all p (x ∷ xs) f = let here : p x ≡ true = f x (inl refl) in let rest : filter p xs ≡ xs = filter_all p xs (λ a h. f a (inr h)) in rw here (ap (λ l. x ∷ l) rest)

pub filter_sublist : {A : Type 0} (p : A → Bool) (xs : List A) → IsSublist (filter p xs) xs
filter_sublist p [] = refl
filter_sublist p (x ∷ xs) = elim (p x) as (λ b. IsSublist (cond b (x ∷ filter p xs) (filter p xs)) (x ∷ xs)) [ true ↦ inr (filter p xs, refl, filter_sublist p xs) | false ↦ inl (filter_sublist p xs) ]

pub sublist_has : {A : Type 0} (xs ys : List A) (a : A) → IsSublist xs ys → Has xs a → Has ys a
sublist_has xs [] a s h = let h' : Has [] a = rw s at h in h'
sublist_has xs (y ∷ ys) a (inl s) h = inr (sublist_has xs ys a s h)
sublist_has xs (y ∷ ys) a (inr s) h = let h' : Has (y ∷ s.0) a = rw s.1 at h in elim h' [ inl e ↦ inl e | inr r ↦ inr (sublist_has s.0 ys a s.2 r) ]

-- membership as a test
module _ {A : Type 0} (same : A → A → Bool) (equality : IsEqualityTest same) where
  pub any_same : (xs : List A) (a : A) → IsTrue (list_any (same a) xs) → Has xs a
  any_same xs a t = let r = has_of_any (same a) xs t in subst (λ y. Has xs y) (sym ((equality a r.0).0 r.2)) r.1

  pub same_any : (xs : List A) (a : A) → Has xs a → IsTrue (list_any (same a) xs)
  same_any xs a h = any_of_has (same a) xs a h ((equality a a).1 refl)

  absent : (x : A) (xs : List A) (a : A) → AllByRecursion (λ y. same x y ≡ false) xs → Has xs a → a ≡ x → ⊥
  absent x [] a d h e = h
  absent x (y ∷ ys) a d (inl h) e = not_both ((equality x y).1 (sym e ∙ h)) d.0
  absent x (y ∷ ys) a d (inr h) e = absent x ys a d.1 h e

  -- a sublist of a list of distinct elements is what a test keeps
  pub sublist_filter : (xs ys : List A) → IsDistinct same ys → IsSublist xs ys → xs ≡ filter (λ a. list_any (same a) xs) ys
  unfolding IsDistinct
  sublist_filter xs [] d s = s
  sublist_filter xs (y ∷ ys) d (inl s) =
      elim (either (list_any (same y) xs)) [
        | inl t ↦ absurd (absent y ys y d.0 (sublist_has xs ys y s (any_same xs y t)) refl)
        | inr f ↦ rw f (sublist_filter xs ys d.1 s)
      ]
  sublist_filter xs (y ∷ ys) d (inr s) =
      let here : list_any (same y) xs ≡ true = same_any xs y (subst (λ l. Has l y) (sym s.1) (inl refl)) in
      let fewer : (a : A) → Has ys a → IsTrue (list_any (same a) xs) → IsTrue (list_any (same a) s.0) =
      (λ a h t. let h' : Has (y ∷ s.0) a = subst (λ l. Has l a) s.1 (any_same xs a t) in elim h' [ inl e ↦ absurd (absent y ys a d.0 h e) | inr r ↦ same_any s.0 a r ]) in
      let more : (a : A) → Has ys a → IsTrue (list_any (same a) s.0) → IsTrue (list_any (same a) xs) =
      (λ a h t. same_any xs a (subst (λ l. Has l a) (sym s.1) (inr (any_same s.0 a t)))) in
      rw here (s.1 ∙ ap (λ zs. y ∷ zs) (sublist_filter s.0 ys d.1 s.2 ∙ sym (filter_same (λ a. list_any (same a) xs) (λ a. list_any (same a) s.0) ys fewer more)))
