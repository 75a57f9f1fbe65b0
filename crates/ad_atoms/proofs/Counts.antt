-- How many elements of a list of distinct numbers pass a test: as many as numbers do, where those that do stand there.
use Rattle.std.proofs.Common.{◌≡◌, ◌≢◌, ℕ, zero, suc, ◌+◌, ◌<◌, Bool, true, false, ◌&&◌, List, [], ◌∷◌, length, ltb, nat_eq, IsTrue, IsFalse, inl, inr, sym, ◌∙◌, refl, ap, subst, arith}
use Rattle.std.specs.List.{filter, IsDistinct, AllByRecursion}
use Rattle.std.proofs.lemmas.Bool.{cases_eq}
use Rattle.std.proofs.lemmas.Bool.Decides.{nat_tests}
use Rattle.std.proofs.lemmas.Map.Keys.{IsDistinct-head, IsDistinct-tail}
use Rattle.ad_theory.specs.Numbers.{sum_where}
use Rattle.ad_theory.proofs.Members.{either, and_intro, and_left, Has, filter_same}

apart : (x y : ℕ) (xs : List ℕ) → AllByRecursion (λ y. nat_eq x y ≡ false) xs → Has xs y → y ≢ x
apart x y [] d h e = h
apart x y (z ∷ xs) d (inl h) e = let out : nat_eq x z ≡ false = d.0 in let same : x ≡ z = sym e ∙ h in absurd (grind (arith, nat_tests))
apart x y (z ∷ xs) d (inr h) e = apart x y xs d.1 h e

-- a test that one more element passes, which stands there once
one_more : (p q : ℕ → Bool) (b : ℕ) (xs : List ℕ) → IsDistinct nat_eq xs → Has xs b → IsFalse (p b) → IsTrue (q b) → ((x : ℕ) → x ≢ b → q x ≡ p x) → length (filter q xs) ≡ length (filter p xs) + 1
one_more p q b [] d h f t same = absurd h
one_more p q b (x ∷ xs) d (inl e) f t same =
    let out : p x ≡ false = subst (λ y. IsFalse (p y)) e f in
    let in' : q x ≡ true = subst (λ y. IsTrue (q y)) e t in
    let others : (y : ℕ) → Has xs y → q y ≡ p y = λ y h. same y (λ i. apart x y xs (IsDistinct-head nat_eq x xs d) h (i ∙ e)) in
    let rest : filter q xs ≡ filter p xs = filter_same q p xs (λ y h k. sym (others y h) ∙ k) (λ y h k. others y h ∙ k) in
    rw (out, in') (omega (arith, ap length rest))
one_more p q b (x ∷ xs) d (inr h) f t same =
    let here : q x ≡ p x = same x (λ e. apart x b xs (IsDistinct-head nat_eq x xs d) h (sym e)) in
    let rest = one_more p q b xs (IsDistinct-tail nat_eq x xs d) h f t same in
    elim (either (p x)) [
      | inl k ↦ (let k' : q x ≡ true = here ∙ k in rw (k, k') (omega arith))
      | inr k ↦ (let k' : q x ≡ false = here ∙ k in rw (k, k') (omega arith))
    ]

filter_none : (p : ℕ → Bool) (xs : List ℕ) → ((a : ℕ) → IsFalse (p a)) → filter p xs ≡ []
filter_none p [] f = refl
filter_none p (x ∷ xs) f = let out : p x ≡ false = f x in rw out (filter_none p xs f)

module _ (p : ℕ → Bool) (order : List ℕ) (distinct : IsDistinct nat_eq order) (listed : (b : ℕ) → IsTrue (p b) → Has order b) where
  -- those below n
  counted_below : (n : ℕ) → sum_where p (λ _. 1) n ≡ length (filter (λ b. p b && ltb b n) order)
  counted_below zero = sym (ap length (filter_none (λ b. p b && ltb b zero) order (λ b. elim (either (p b)) [ inl t ↦ rw t (grind (arith, nat_tests)) | inr f ↦ rw f refl ])))
  counted_below (suc n) = elim (either (p n)) [
    | inl t ↦ (
        let more = one_more (λ b. p b && ltb b n) (λ b. p b && ltb b (suc n)) n order distinct (listed n t)
        (let e : ltb n n ≡ false = grind (arith, nat_tests) in rw (t, e) refl)
        (let e : ltb n (suc n) ≡ true = grind (arith, nat_tests) in rw (t, e) refl)
        (λ x h. let e : ltb x (suc n) ≡ ltb x n = grind (arith, nat_tests) in rw e refl) in
        rw t (omega (arith, counted_below n))
        )
    | inr f ↦ (
        let same : (x : ℕ) → (p x && ltb x (suc n)) ≡ (p x && ltb x n) = (λ x. elim (cases_eq x n) [
          | inl e ↦ (let out : p x ≡ false = subst (λ y. IsFalse (p y)) (sym e) f in rw out refl)
          | inr h ↦ (let e : ltb x (suc n) ≡ ltb x n = grind (arith, nat_tests) in rw e refl)
        ]) in
        let rest : filter (λ b. p b && ltb b (suc n)) order ≡ filter (λ b. p b && ltb b n) order = filter_same (λ b. p b && ltb b (suc n)) (λ b. p b && ltb b n) order (λ y _ k. sym (same y) ∙ k) (λ y _ k. same y ∙ k) in
        rw f (omega (arith, counted_below n, ap length rest))
        )
  ]

  -- where all of them are below n
  pub counted : (n : ℕ) → ((b : ℕ) → Has order b → b < n) → sum_where p (λ _. 1) n ≡ length (filter p order)
  counted n small = counted_below n ∙ ap length (filter_same (λ b. p b && ltb b n) p order (λ b _ t. and_left (p b) (ltb b n) t) (λ b h t. let l = small b h in and_intro (p b) (ltb b n) t (grind (arith, nat_tests))))

pub sum_same : (p q : ℕ → Bool) (f : ℕ → ℕ) (n : ℕ) → ((b : ℕ) → p b ≡ q b) → sum_where p f n ≡ sum_where q f n
sum_same p q f zero same = refl
sum_same p q f (suc n) same = let here : p n ≡ q n = same n in let rest : sum_where p f n ≡ sum_where q f n = sum_same p q f n same in rw (here, rest) refl
