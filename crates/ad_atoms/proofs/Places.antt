-- The place of the first element that passes a test, in a list with one more at its end.
use Rattle.std.proofs.Common.{◌≡◌, ℕ, ◌<◌, Bool, true, cond, List, [], ◌∷◌, ◌++◌, length, get_or, ltb, Some, None, IsFalse, inl, inr, sym, ◌∙◌, refl, ap, arith}
use Rattle.std.specs.List.{position, position_or_len}
use Rattle.std.proofs.lemmas.Bool.{cases_lt}
use Rattle.std.proofs.lemmas.Bool.Decides.{nat_tests}
use Rattle.std.proofs.lemmas.List.{get_or_append_left, get_or_default, get_or_push, length_push}
use Rattle.std.proofs.lemmas.List.Sums.{fails_before_first}
use Rattle.std.proofs.lemmas.List.Quantifiers.{position-Some}
use Rattle.ad_theory.proofs.Members.{either, contains_of_has}
use Rattle.ad_decomposition.proofs.Firsts.{position_is, position_none}

module _ {A : Type 0} (p : A → Bool) (xs : List A) (y : A) where
  pub position-push_some : (j : ℕ) → position p xs ≡ Some j → position p (xs ++ y ∷ []) ≡ Some j
  position-push_some j e =
      let at = position-Some p xs j y e in
      let kept : (k : ℕ) → k < length xs → get_or (xs ++ y ∷ []) k y ≡ get_or xs k y = λ k l. get_or_append_left xs (y ∷ []) y k l in
      position_is p (xs ++ y ∷ []) j y (omega (arith, length_push xs y, at.0)) (ap p (kept j at.0) ∙ at.1) (λ k l. ap p (kept k (omega (arith, at.0))) ∙ at.2 k l)

  none_pass : position p xs ≡ None → (k : ℕ) → k < length xs → IsFalse (p (get_or xs k y))
  none_pass e k l = elim (cases_lt k (position_or_len p xs)) [
    | inl h ↦ fails_before_first p xs k y h
    | inr h ↦ (let small : ltb (position_or_len p xs) (length xs) ≡ true = grind (arith, nat_tests) in let there : Some (position_or_len p xs) ≡ None = rw small at e in cc)
  ]

  -- the last one passes where no other does
  pub position-push_none : position p xs ≡ None → position p (xs ++ y ∷ []) ≡ cond (p y) (Some (length xs)) None
  position-push_none e =
      let kept : (k : ℕ) → k < length xs → IsFalse (p (get_or (xs ++ y ∷ []) k y)) = λ k l. ap p (get_or_append_left xs (y ∷ []) y k l) ∙ none_pass e k l in
      let last : get_or (xs ++ y ∷ []) (length xs) y ≡ y = get_or_push xs y y (length xs) refl in
      elim (either (p y)) [
        | inl t ↦ rw t (position_is p (xs ++ y ∷ []) (length xs) y (omega (arith, length_push xs y)) (ap p last ∙ t) kept)
        | inr f ↦ rw f (position_none_at (λ k l. elim (cases_lt k (length xs)) [
          | inl h ↦ kept k h
          | inr h ↦ (let here : k ≡ length xs = omega (arith, length_push xs y) in ap (λ j. p (get_or (xs ++ y ∷ []) j y)) here ∙ ap p last ∙ f)
        ]))
      ]
    where
      position_none_at : ((k : ℕ) → k < length (xs ++ y ∷ []) → IsFalse (p (get_or (xs ++ y ∷ []) k y))) → position p (xs ++ y ∷ []) ≡ None
      position_none_at f = position_none p (xs ++ y ∷ []) (λ a h. let c = contains_of_has (xs ++ y ∷ []) a h in ap p (sym c.2 ∙ get_or_default (xs ++ y ∷ []) c.0 a y c.1) ∙ f c.0 c.1)
