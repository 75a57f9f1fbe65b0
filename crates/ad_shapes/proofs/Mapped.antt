-- Lists of which one is made of the other by a function, and tests of their elements that agree along it.
use Rattle.std.proofs.Common.{◌≡◌, ℕ, suc, Bool, cond, not, List, [], ◌∷◌, map, length, inl, inr, refl, ap, true, false}
use Rattle.std.specs.List.{filter, list_all, list_any, position, prefix_len}
use Rattle.std.proofs.lemmas.List.{length-map}
use Rattle.ad_decomposition.specs.Atoms.{firsts_among}
use Rattle.ad_shapes.specs.Shapes.{places_where}
use Rattle.ad_theory.proofs.Members.{Has}
use Rattle.ad_decomposition.proofs.Firsts.{firsts_has}

module _ {X A : Type 0} (f : X → A) where
  -- a test of the list made passes at each element where a test of the other list does
  abbrev pub Agree : List X → (A → Bool) → (X → Bool) → Type 0
  Agree xs p q = (x : X) → Has xs x → p (f x) ≡ q x

  -- what an element adds to a list, where a test passes
  added : (b : Bool) (x : X) (ys : List X) → cond b (f x ∷ map f ys) (map f ys) ≡ map f (cond b (x ∷ ys) ys)
  added true x ys = refl
  added false x ys = refl

  pub filter_mapped : (p : A → Bool) (q : X → Bool) (xs : List X) → Agree xs p q → filter p (map f xs) ≡ map f (filter q xs)
  filter_mapped p q [] agree = refl
  filter_mapped p q (x ∷ xs) agree =
      let here : p (f x) ≡ q x = agree x (inl refl) in
      let rest : filter p (map f xs) ≡ map f (filter q xs) = filter_mapped p q xs (λ y h. agree y (inr h)) in
      rw (here, rest) (added (q x) x (filter q xs))

  prefix_mapped : (p : A → Bool) (q : X → Bool) (xs : List X) → Agree xs p q → prefix_len p (map f xs) ≡ prefix_len q xs
  prefix_mapped p q [] agree = refl
  prefix_mapped p q (x ∷ xs) agree =
      let here : p (f x) ≡ q x = agree x (inl refl) in
      let rest : prefix_len p (map f xs) ≡ prefix_len q xs = prefix_mapped p q xs (λ y h. agree y (inr h)) in
      rw (here, rest) refl

  pub all_mapped : (p : A → Bool) (q : X → Bool) (xs : List X) → Agree xs p q → list_all p (map f xs) ≡ list_all q xs
  all_mapped p q [] agree = refl
  all_mapped p q (x ∷ xs) agree =
      let here : p (f x) ≡ q x = agree x (inl refl) in
      let rest : list_all p (map f xs) ≡ list_all q xs = all_mapped p q xs (λ y h. agree y (inr h)) in
      rw (here, rest) refl

  pub any_mapped : (p : A → Bool) (q : X → Bool) (xs : List X) → Agree xs p q → list_any p (map f xs) ≡ list_any q xs
  any_mapped p q [] agree = refl
  any_mapped p q (x ∷ xs) agree =
      let here : p (f x) ≡ q x = agree x (inl refl) in
      let rest : list_any p (map f xs) ≡ list_any q xs = any_mapped p q xs (λ y h. agree y (inr h)) in
      rw (here, rest) refl

  pub places_mapped : (p : A → Bool) (q : X → Bool) (xs : List X) (i : ℕ) → Agree xs p q → places_where p i (map f xs) ≡ places_where q i xs
  places_mapped p q [] i agree = refl
  places_mapped p q (x ∷ xs) i agree =
      let here : p (f x) ≡ q x = agree x (inl refl) in
      let rest : places_where p (suc i) (map f xs) ≡ places_where q (suc i) xs = places_mapped p q xs (suc i) (λ y h. agree y (inr h)) in
      rw (here, rest) refl

  pub position_mapped : (p : A → Bool) (q : X → Bool) (xs : List X) → Agree xs p q → position p (map f xs) ≡ position q xs
  position_mapped p q xs agree =
      let before : prefix_len (λ a. not (p a)) (map f xs) ≡ prefix_len (λ x. not (q x)) xs = prefix_mapped (λ a. not (p a)) (λ x. not (q x)) xs (λ x h. ap not (agree x h)) in
      let count : length (map f xs) ≡ length xs = length-map xs f in
      rw (before, count) refl

  pub map_mapped : {B : Type 0} (g : A → B) (h : X → B) (xs : List X) → ((x : X) → Has xs x → g (f x) ≡ h x) → map g (map f xs) ≡ map h xs
  map_mapped g h [] agree = refl
  map_mapped g h (x ∷ xs) agree =
      let here : g (f x) ≡ h x = agree x (inl refl) in
      let rest : map g (map f xs) ≡ map h xs = map_mapped g h xs (λ y m. agree y (inr m)) in
      rw (here, rest) refl

  pub firsts_mapped : (same : A → A → Bool) (same' : X → X → Bool) (xs : List X) → ((x y : X) → Has xs x → Has xs y → same (f x) (f y) ≡ same' x y) → firsts_among same (map f xs) ≡ map f (firsts_among same' xs)
  firsts_mapped same same' [] agree = refl
  firsts_mapped same same' (x ∷ xs) agree =
      let firsts : List X = firsts_among same' xs in
      let rest : firsts_among same (map f xs) ≡ map f firsts = firsts_mapped same same' xs (λ y z h k. agree y z (inr h) (inr k)) in
      let others : filter (λ b. not (same (f x) b)) (map f firsts) ≡ map f (filter (λ y. not (same' x y)) firsts) =
      filter_mapped (λ b. not (same (f x) b)) (λ y. not (same' x y)) firsts (λ y h. ap not (agree x y (inl refl) (inr (firsts_has same' xs y h)))) in
      rw rest (ap (λ ys. f x ∷ ys) others)
