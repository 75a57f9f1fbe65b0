-- The elements that are the same as none before them, with one more element at the end.
use Rattle.std.proofs.Common.{◌≡◌, ℕ, ◌+◌, ◌||◌, not, Bool, cond, List, [], ◌∷◌, ◌++◌, IsTrue, IsFalse, inl, inr, refl, sym, ap, ◌∙◌, append-nil, arith}
use Rattle.std.specs.List.{filter, list_any, range_with_len}
use Rattle.std.proofs.lemmas.List.{map-id}
use Rattle.std.proofs.lemmas.List.Elements.{filter-append}
use Rattle.std.proofs.lemmas.List.FromFn.{map-range_with_len_more}
use Rattle.ad_theory.proofs.Members.{either, not_both, false_not, or_left, or_right, has_of_any, any_of_has, has_filter, filter_has}
use Rattle.ad_decomposition.specs.Atoms.{firsts_among}

module _ {A : Type 0} (same : A → A → Bool) (trans : (a b c : A) → IsTrue (same a b) → IsTrue (same b c) → IsTrue (same a c)) where
  -- x, unless it is the same as one of these
  abbrev new_one : List A → A → List A
  new_one xs x = cond (list_any (λ b. same b x) xs) [] (x ∷ [])

  -- what stays after the elements that are the same as a are taken out
  abbrev others : A → List A → List A
  others a xs = filter (λ b. not (same a b)) xs

  none_left : (a x : A) → IsTrue (same a x) → others a (x ∷ []) ≡ []
  none_left a x t = rw t refl

  one_left : (a x : A) → IsFalse (same a x) → others a (x ∷ []) ≡ x ∷ []
  one_left a x f = rw f refl

  new_of_any : (xs : List A) (x : A) → IsTrue (list_any (λ b. same b x) xs) → new_one xs x ≡ []
  new_of_any xs x t = rw t refl

  new_of_none : (xs : List A) (x : A) → IsFalse (list_any (λ b. same b x) xs) → new_one xs x ≡ x ∷ []
  new_of_none xs x f = rw f refl

  -- taking out the same as a, in the rest and in the new element
  rest_new : (a x : A) (F : List A) → others a (new_one F x) ≡ new_one (a ∷ others a F) x
  rest_new a x F = elim (either (same a x)) [
    | inl t ↦ (
        let gone : others a (new_one F x) ≡ [] = elim (either (list_any (λ b. same b x) F)) [
          | inl h ↦ ap (others a) (new_of_any F x h)
          | inr h ↦ ap (others a) (new_of_none F x h) ∙ none_left a x t
        ] in
        gone ∙ sym (new_of_any (a ∷ others a F) x (or_left (same a x) (list_any (λ b. same b x) (others a F)) t)))
    | inr f ↦ elim (either (list_any (λ b. same b x) F)) [
      | inl h ↦ (
          let r = has_of_any (λ b. same b x) F h in
          let apart : IsTrue (not (same a r.0)) = elim (either (same a r.0)) [ inl t ↦ absurd (not_both (trans a r.0 x t r.2) f) | inr n ↦ false_not (same a r.0) n ] in
          let stays : IsTrue (list_any (λ b. same b x) (others a F)) = any_of_has (λ b. same b x) (others a F) r.0 (has_filter (λ b. not (same a b)) F r.0 r.1 apart) r.2 in
          ap (others a) (new_of_any F x h) ∙ sym (new_of_any (a ∷ others a F) x (or_right (same a x) (list_any (λ b. same b x) (others a F)) stays)))
      | inr h ↦ (
          let none : IsFalse (same a x || list_any (λ b. same b x) (others a F)) = elim (either (list_any (λ b. same b x) (others a F))) [
            | inl t ↦ (let r = has_of_any (λ b. same b x) (others a F) t in absurd (not_both (any_of_has (λ b. same b x) F r.0 (filter_has (λ b. not (same a b)) F r.0 r.1).0 r.2) h))
            | inr n ↦ rw (f, n) refl
          ] in
          ap (others a) (new_of_none F x h) ∙ one_left a x f ∙ sym (new_of_none (a ∷ others a F) x none))
    ]
  ]

  pub firsts_among-push : (xs : List A) (x : A) → firsts_among same (xs ++ x ∷ []) ≡ firsts_among same xs ++ new_one (firsts_among same xs) x
  firsts_among-push [] x = refl
  firsts_among-push (a ∷ rest) x =
      let F = firsts_among same rest in
      ap (λ l. a ∷ others a l) (firsts_among-push rest x) ∙ ap (λ l. a ∷ l) (filter-append (λ b. not (same a b)) F (new_one F x) ∙ ap (λ l. others a F ++ l) (rest_new a x F))

  -- an element that is the same as a first one is no first one
  pub firsts_among-same : (xs : List A) (x : A) → IsTrue (list_any (λ b. same b x) (firsts_among same xs)) → firsts_among same (xs ++ x ∷ []) ≡ firsts_among same xs
  firsts_among-same xs x t = firsts_among-push xs x ∙ ap (λ l. firsts_among same xs ++ l) (new_of_any (firsts_among same xs) x t) ∙ append-nil (firsts_among same xs)

  -- one that is the same as none is
  pub firsts_among-new : (xs : List A) (x : A) → IsFalse (list_any (λ b. same b x) (firsts_among same xs)) → firsts_among same (xs ++ x ∷ []) ≡ firsts_among same xs ++ x ∷ []
  firsts_among-new xs x f = firsts_among-push xs x ∙ ap (λ l. firsts_among same xs ++ l) (new_of_none (firsts_among same xs) x f)

-- ---- the numbers below one more

range_more : (n : ℕ) → range_with_len 0 (n + 1) ≡ range_with_len 0 n ++ n ∷ []
range_more n = sym (map-id (range_with_len 0 (n + 1))) ∙ map-range_with_len_more (λ x. x) 0 n n (omega arith) ∙ ap (λ l. l ++ n ∷ []) (map-id (range_with_len 0 n))

pub filter_range_yes : (p : ℕ → Bool) (n : ℕ) → IsTrue (p n) → filter p (range_with_len 0 (n + 1)) ≡ filter p (range_with_len 0 n) ++ n ∷ []
filter_range_yes p n t =
    let one : filter p (n ∷ []) ≡ n ∷ [] = rw t refl in
    ap (filter p) (range_more n) ∙ filter-append p (range_with_len 0 n) (n ∷ []) ∙ ap (λ l. filter p (range_with_len 0 n) ++ l) one

pub filter_range_no : (p : ℕ → Bool) (n : ℕ) → IsFalse (p n) → filter p (range_with_len 0 (n + 1)) ≡ filter p (range_with_len 0 n)
filter_range_no p n f =
    let none : filter p (n ∷ []) ≡ [] = rw f refl in
    ap (filter p) (range_more n) ∙ filter-append p (range_with_len 0 n) (n ∷ []) ∙ ap (λ l. filter p (range_with_len 0 n) ++ l) none ∙ append-nil (filter p (range_with_len 0 n))
