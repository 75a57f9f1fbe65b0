-- Elements of lists at their places.
use Rattle.std.proofs.Common.{◌≡◌, ℕ, zero, suc, ◌+◌, ◌<◌, ◌++◌, ◌⊎◌, Option, Some, None, Result, Ok, Err, IfOk, List, [], ◌∷◌, length, get_or, IsTrue, inl, inr, refl, sym, ◌∙◌, subst, arith, length-append}
use Rattle.std.proofs.lemmas.List.{get_or_append_left, get_or_past}
use Rattle.std.proofs.lemmas.Bool.{cases_lt}
use Rattle.std.proofs.Math.Seq.{get_or-append_seam}
use Rattle.ad_theory.specs.Numbers.{among}
use Rattle.ad_theory.proofs.Members.{has_get_or, contains_of_has, not_both}
use Rattle.ad_groups.proofs.KeyLemmas.{among_of_has, has_of_among}

-- an element is among them
pub among_at : (xs : List ℕ) (i : ℕ) → i < length xs → IsTrue (among xs (get_or xs i 0))
among_at xs i l = among_of_has xs (get_or xs i 0) (has_get_or xs i 0 l)

-- a number below the next one
pub below_or_last : (t n : ℕ) → t < n + 1 → (t < n) ⊎ (t ≡ n)
below_or_last t n l = elim (cases_lt t n) [ inl s ↦ inl s | inr g ↦ inr (omega (arith, l, g)) ]

-- what holds of each element with its place, and of one more
pub each_more : {X : Type 0} (P : ℕ → X → Type 0) (xs : List X) (x d : X) → ((t : ℕ) → t < length xs → P t (get_or xs t d)) → P (length xs) x
    → (t : ℕ) → t < length (xs ++ x ∷ []) → P t (get_or (xs ++ x ∷ []) t d)
each_more P xs x d all here t l =
    elim (below_or_last t (length xs) (omega (arith, l, length-append xs (x ∷ [])))) [
      | inl s ↦ subst (P t) (sym (get_or_append_left xs (x ∷ []) d t s)) (all t s)
      | inr e ↦ subst (λ k. P k (get_or (xs ++ x ∷ []) k d)) (sym e) (subst (P (length xs)) (sym (get_or-append_seam xs x [] d)) here)
    ]

-- an element within the list, whatever the default
pub get_or-any : {X : Type 0} (xs : List X) (i : ℕ) (d e : X) → i < length xs → get_or xs i d ≡ get_or xs i e
get_or-any [] i d e l = absurd (omega arith)
get_or-any (x ∷ xs) zero d e l = refl
get_or-any (x ∷ xs) (suc i) d e l = get_or-any xs i d e (omega arith)

-- the place of a number that is among them
pub place_of : (xs : List ℕ) (s : ℕ) → IsTrue (among xs s) → (t : ℕ) × (t < length xs) × (get_or xs t 0 ≡ s)
place_of xs s a =
    let c = contains_of_has xs s (has_of_among xs s a) in
    (c.0, c.1, get_or-any xs c.0 0 s c.1 ∙ c.2)

-- a place that has something is within the list
pub some_below : {A : Type 0} (xs : List (Option A)) (i : ℕ) (a : A) → get_or xs i None ≡ Some a → i < length xs
some_below xs i a e = elim (cases_lt i (length xs)) [
  | inl l ↦ l
  | inr g ↦ absurd (let clash : None ≡ Some a = sym (get_or_past xs i None g) ∙ e in cc)
]

pub some_same : {A : Type 0} {a b : A} → Some a ≡ Some b → a ≡ b
some_same e = cc

-- nothing is among no numbers
pub none_among : (xs : List ℕ) (s : ℕ) → length xs ≡ 0 → IsTrue (among xs s) → ⊥
none_among [] s e h = not_both h refl
none_among (x ∷ xs) s e h = absurd (omega (arith, e))

-- what follows of the value of a result that is `Ok`
pub ok_then : {X E : Type 0} (r : Result X E) (P Q : X → Type 0) → IfOk r P → ((x : X) → P x → Q x) → IfOk r Q
ok_then (Ok x) P Q p f = f x p
ok_then (Err e) P Q p f = tt

pub ok_both : {X E : Type 0} (r : Result X E) (P Q R : X → Type 0) → IfOk r P → IfOk r Q → ((x : X) → P x → Q x → R x) → IfOk r R
ok_both (Ok x) P Q R p q f = f x p q
ok_both (Err e) P Q R p q f = tt
