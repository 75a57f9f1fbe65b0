-- Numbers by their places.
use Rattle.std.proofs.Common.{◌≡◌, ℕ, ◌+◌, ◌*◌, ◌<◌, Bool, List, [], ◌∷◌, ◌++◌, length, get_or, inl, inr, refl, ap, sym, ◌∙◌, arith}
use Rattle.std.proofs.lemmas.Bool.{cases_lt}
use Rattle.std.proofs.lemmas.List.{same_lists, get_or_default, get_or_append_left, get_or_push, length_push}
use Rattle.std.proofs.lemmas.List.FromFn.{length-map-range_with_len, get_or-map-range_with_len}
use Rattle.ad_sizes.specs.Places.{lowest, number_over, numbers_of, AreOver}

-- one place more, above all others
pub number_push : (places : List (List Bool)) (row : List Bool) (rest slot : ℕ) → number_over rest (places ++ row ∷ []) slot ≡ number_over (lowest row slot + 2 * rest) places slot
number_push [] row rest slot = refl
number_push (p ∷ ps) row rest slot = ap (λ n. lowest p slot + 2 * n) (number_push ps row rest slot)

pub length-numbers : (slots : ℕ) (places : List (List Bool)) → length (numbers_of slots places) ≡ slots
unfolding numbers_of
length-numbers slots places = length-map-range_with_len (number_over 0 places) 0 slots

pub number_at : (slots : ℕ) (places : List (List Bool)) (i d : ℕ) → i < slots → get_or (numbers_of slots places) i d ≡ number_over 0 places i
unfolding numbers_of
number_at slots places i d l = get_or-map-range_with_len (number_over 0 places) 0 slots i i d l (omega arith)

-- the numbers are these
pub numbers_are : (slots : ℕ) (places : List (List Bool)) (numbers : List ℕ) → length numbers ≡ slots → ((k : ℕ) → k < slots → number_over 0 places k ≡ get_or numbers k 0) → numbers_of slots places ≡ numbers
numbers_are slots places numbers long each =
    same_lists (numbers_of slots places) numbers (length-numbers slots places ∙ sym long) (λ k d within.
    let l : k < slots = omega (arith, length-numbers slots places) in
    number_at slots places k d l ∙ each k l ∙ get_or_default numbers k 0 d (omega arith))

pub over_push : (slots : ℕ) (places : List (List Bool)) (row : List Bool) → AreOver slots places → length row ≡ slots → AreOver slots (places ++ row ∷ [])
over_push slots places row over long k l = elim (cases_lt k (length places)) [
  | inl h ↦ ap length (get_or_append_left places (row ∷ []) [] k h) ∙ over k h
  | inr h ↦ (let last : length places ≡ k = omega (arith, length_push places row) in ap length (get_or_push places row [] k last) ∙ long)
]
