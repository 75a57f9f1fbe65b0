-- The lowest bit at or above a number.
use Rattle.std.proofs.Common.{◌≡◌, ◌≢◌, ℕ, ◌+◌, ◌-◌, ◌*◌, ◌/◌, ◌%◌, ◌^◌, ◌≤◌, ◌<◌, eqb, List, length, get_or, ap, sym, ◌∙◌, arith, inl, inr, w64}
use Rattle.std.specs.Int.{bit_at, trailing_zeros}
use Rattle.std.specs.Prelude.{IsFalse, IsTrue}
use Rattle.std.proofs.lemmas.Bool.{cases_lt, both_ways}
use Rattle.std.proofs.lemmas.Nat.{shr-shr}
use Rattle.std.proofs.Math.Nat.{div-le_self}
use Rattle.std.proofs.lemmas.Nat.Bits.{bit_at-zero, bit_at-trailing_zeros, bit_at_above}
use Rattle.ad_bits.specs.Words.{bit_in, IsLowestFrom}
use Rattle.ad_bits.proofs.Bits.{bit_of_word, bit_in_past}

-- no bit from `from` up to `to` is set
abbrev pub NoneBetween : List ℕ → ℕ → ℕ → Type 0
NoneBetween ws from to = (k : ℕ) → from ≤ k → k < to → IsFalse (bit_in ws k)

-- the bits of a word that was shifted down
shifted : (w r j : ℕ) → bit_at (w / 2 ^ r) j ≡ bit_at w (r + j)
shifted w r j = ap (λ n. n % 2) (shr-shr w r j)

-- a bit of the words by the word that it lies in
bit_from : (ws : List ℕ) (q j i n : ℕ) → j < 64 → i ≡ 64 * q + j → bit_at (get_or ws q 0) j ≡ n → bit_in ws i ≡ eqb n 1
bit_from ws q j i n within place is = ap (bit_in ws) place ∙ bit_of_word ws q j within ∙ ap (λ m. eqb m 1) is

-- a bit that is set lies in the words
pub in_words : (ws : List ℕ) (i : ℕ) → IsTrue (bit_in ws i) → i < 64 * length ws
in_words ws i set =
    elim (cases_lt i (64 * length ws)) [
      | inl within ↦ within
      | inr past ↦ absurd (both_ways (bit_in ws i) (bit_in_past ws i past) set)
    ]

module _ (ws : List ℕ) (from : ℕ) where
  -- the word of `from` has no bit at or above it
  pub none_here : get_or ws (from / 64) 0 / 2 ^ (from % 64) ≡ 0 → NoneBetween ws from (64 * (from / 64 + 1))
  none_here none k low high =
      let w : ℕ = get_or ws (from / 64) 0 in
      let place : from % 64 + (k - from) ≡ k % 64 = omega arith in
      let bit : bit_at w (k % 64) ≡ 0 = ap (λ j. bit_at w j) (sym place) ∙ sym (shifted w (from % 64) (k - from)) ∙ ap (λ n. bit_at n (k - from)) none ∙ bit_at-zero (k - from) in
      bit_from ws (from / 64) (k % 64) k 0 (omega arith) (omega arith) bit

  pub lowest_here : get_or ws (from / 64) 0 < 2 ^ 64 → get_or ws (from / 64) 0 / 2 ^ (from % 64) ≢ 0
      → IsLowestFrom ws from (from + trailing_zeros w64 (get_or ws (from / 64) 0 / 2 ^ (from % 64)))
  lowest_here fits some =
      let w : ℕ = get_or ws (from / 64) 0 in
      let rest : ℕ = w / 2 ^ (from % 64) in
      let smaller : rest ≤ w = div-le_self w (2 ^ (from % 64)) in
      let t : ℕ = trailing_zeros w64 rest in
      let lowest = bit_at-trailing_zeros w64 rest (omega (arith, some)) (omega arith) in
      let bit : bit_at w (from % 64 + t) ≡ 1 = sym (shifted w (from % 64) t) ∙ lowest.1 in
      let inside : from % 64 + t < 64 =
      elim (cases_lt (from % 64 + t) 64) [
        | inl below ↦ below
        | inr above ↦ absurd (omega (arith, bit, bit_at_above w 64 (from % 64 + t) fits above))
      ] in record {
        at_or_above = omega arith;
        set = bit_from ws (from / 64) (from % 64 + t) (from + t) 1 inside (omega arith) bit;
        none_between = λ k low high.
            bit_from ws (from / 64) (from % 64 + (k - from)) k 0 (omega arith) (omega arith) (sym (shifted w (from % 64) (k - from)) ∙ lowest.2 (k - from) (omega arith));
      }

  -- the next word has no bit either
  pub none_there : (at : ℕ) → NoneBetween ws from (64 * at) → get_or ws at 0 ≡ 0 → NoneBetween ws from (64 * (at + 1))
  none_there at before none k low high =
      elim (cases_lt k (64 * at)) [
        | inl early ↦ before k low early
        | inr late ↦ bit_from ws at (k - 64 * at) k 0 (omega arith) (omega arith) (ap (λ w. bit_at w (k - 64 * at)) none ∙ bit_at-zero (k - 64 * at))
      ]

  pub lowest_there : (at : ℕ) → from ≤ 64 * at → NoneBetween ws from (64 * at) → get_or ws at 0 ≢ 0 → get_or ws at 0 < 2 ^ 64
      → IsLowestFrom ws from (64 * at + trailing_zeros w64 (get_or ws at 0))
  lowest_there at above before some fits =
      let w : ℕ = get_or ws at 0 in
      let t : ℕ = trailing_zeros w64 w in
      let lowest = bit_at-trailing_zeros w64 w (omega (arith, some)) fits in record {
        at_or_above = omega arith;
        set = bit_from ws at t (64 * at + t) 1 lowest.0 (omega arith) lowest.1;
        none_between = λ k low high.
            elim (cases_lt k (64 * at)) [
              | inl early ↦ before k low early
              | inr late ↦ bit_from ws at (k - 64 * at) k 0 (omega (arith, lowest.0)) (omega arith) (lowest.2 (k - 64 * at) (omega arith))
            ];
      }

  -- past the last word there is none
  pub none_at_all : (to : ℕ) → NoneBetween ws from to → 64 * length ws ≤ to → (k : ℕ) → from ≤ k → IsFalse (bit_in ws k)
  none_at_all to before all k low =
      elim (cases_lt k to) [
        | inl early ↦ before k low early
        | inr late ↦ bit_in_past ws k (omega arith)
      ]
