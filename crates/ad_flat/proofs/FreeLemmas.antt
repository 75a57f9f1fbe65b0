-- Rows of free slots.
use Rattle.std.proofs.Common.{◌≡◌, ◌<◌, ◌≤◌, not, ℕ, zero, suc, Bool, true, false, List, [], ◌∷◌, Option, None, Some, length, IsTrue, IsFalse, refl, ap, inl, inr, arith, ltb-true, ltb-false, nat_lt}
use Rattle.std.specs.Prelude.{is_some}
use Rattle.std.proofs.lemmas.List.{get_or_past}
use Rattle.ad_theory.proofs.Members.{either, not_both}
use Rattle.ad_bits.specs.Rows.{has, IsLeastFrom, HasNoneFrom}
use Rattle.ad_slots.specs.Held.{Held}
use Rattle.ad_slots.specs.Places.{is_held, least_free}
use Rattle.ad_flat.specs.Free.{AreFree}

-- the first slot that is free
pub free_at : (slots : List (Option Held)) (i : ℕ) → ((j : ℕ) → j < i → IsTrue (is_held slots j)) → IsFalse (is_held slots i) → i ≡ least_free slots
free_at [] zero held free = refl
free_at [] (suc i) held free = absurd (not_both (held 0 (omega arith)) refl)
free_at (None ∷ slots) zero held free = refl
free_at (None ∷ slots) (suc i) held free = absurd (not_both (held 0 (omega arith)) refl)
free_at (Some h ∷ slots) zero held free = absurd (not_both refl free)
free_at (Some h ∷ slots) (suc i) held free = ap suc (free_at slots i (λ j l. held (suc j) (omega arith)) free)

past_is_free : (slots : List (Option Held)) (i : ℕ) → length slots ≤ i → IsFalse (is_held slots i)
past_is_free slots i l = ap is_some (get_or_past slots i None l)

member_within : (row : List Bool) (i : ℕ) → IsTrue (has row i) → i < length row
member_within row i t = elim (either (nat_lt i (length row))) [
  | inl l ↦ ltb-true i (length row) l
  | inr f ↦ absurd (not_both t (get_or_past row i false (ltb-false i (length row) f)))
]

other_true : (a b : Bool) → a ≡ not b → IsFalse a → IsTrue b
other_true a true e f = refl
other_true a false e f = absurd (not_both e f)

other_false : (a b : Bool) → a ≡ not b → IsTrue a → IsFalse b
other_false a true e t = absurd (not_both t e)
other_false a false e t = refl

module _ (most : ℕ) (slots : List (Option Held)) (row : List Bool) (f : AreFree most slots row) where
  pub next_free : (i : ℕ) → IsLeastFrom row 0 i → i ≡ least_free slots
  next_free i least =
      let within : i < length row = member_within row i least.member in
      let size : length row ≡ most = f.size in
      free_at slots i (λ j l. other_true (has row j) (is_held slots j) (f.members j (omega arith)) (least.none_between j (omega arith) l))
      (other_false (has row i) (is_held slots i) (f.members i (omega arith)) least.member)

  pub none_free : length slots ≤ most → HasNoneFrom row 0 → most ≡ least_free slots
  none_free within none = free_at slots most (λ j l. other_true (has row j) (is_held slots j) (f.members j l) (none j (omega arith))) (past_is_free slots most within)
