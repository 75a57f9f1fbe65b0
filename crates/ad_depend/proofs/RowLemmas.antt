-- Lists of rows.
use Rattle.std.proofs.Common.{◌≡◌, ℕ, ◌+◌, ◌<◌, Bool, List, [], ◌∷◌, ◌++◌, length, get_or, inl, inr, arith, sym, ◌∙◌, subst}
use Rattle.std.proofs.lemmas.Bool.{cases_lt}
use Rattle.std.proofs.lemmas.List.{get_or_append_left, get_or_push}

-- one row more, of which the same holds
pub below_push : (P : ℕ → List Bool → Type 0) (rows more : List (List Bool)) (row : List Bool) (n : ℕ) → length rows ≡ n → more ≡ rows ++ row ∷ [] →
    ((i : ℕ) → i < n → P i (get_or rows i [])) → P n row → (i : ℕ) → i < n + 1 → P i (get_or more i [])
below_push P rows more row n long push before last i l =
    subst (λ r. P i (get_or r i [])) (sym push)
    (elim (cases_lt i n) [
      | inl below ↦ subst (P i) (sym (get_or_append_left rows (row ∷ []) [] i (omega arith))) (before i below)
      | inr above ↦ (
          let here : i ≡ n = omega arith in
          let read : get_or (rows ++ row ∷ []) i [] ≡ row = get_or_push rows row [] i (long ∙ sym here) in
          subst (P i) (sym read) (subst (λ k. P k row) (sym here) last)
          )
    ])
