-- Single bits of words, and a row as the first bits of its words.
use Rattle.std.proofs.Common.{◌≡◌, ◌≢◌, ℕ, ◌+◌, ◌*◌, ◌/◌, ◌%◌, ◌^◌, ◌≤◌, ◌<◌, Bool, true, false, not, ◌&&◌, ◌||◌, eqb, List, length, get_or, set, ap, sym, ◌∙◌, arith, inl, inr, bit_and, bit_or, w64}
use Rattle.std.specs.Int.{bit_at, bit_not, trailing_zeros}
use Rattle.std.proofs.lemmas.Bool.{cases_lt, cases_eq}
use Rattle.std.proofs.lemmas.Bool.Decides.{nat_tests}
use Rattle.std.proofs.lemmas.List.{get_or_past, get_or-set_same, get_or-set_other}
use Rattle.std.proofs.lemmas.List.FromFn.{length-map-range_with_len, get_or-map-range_with_len}
use Rattle.std.proofs.lemmas.Nat.Bits.{bit_at-lt, bit_at-zero, bit_at_or, bit_at_and, bit_at_not, bit_at-trailing_zeros, same_from_bits_below}
use Rattle.ad_bits.specs.Rows.{has}
use Rattle.ad_bits.specs.Words.{bit_in, first_bits, AreWordsOf}
use Rattle.ad_bits.proofs.Rows.{same_rows, has_past}

-- past all words no bit is set
pub bit_in_past : (ws : List ℕ) (i : ℕ) → 64 * length ws ≤ i → bit_in ws i ≡ false
unfolding bit_in
bit_in_past ws i above =
    ap (λ w. eqb (bit_at w (i % 64)) 1) (get_or_past ws (i / 64) 0 (omega arith)) ∙ ap (λ n. eqb n 1) (bit_at-zero (i % 64))

-- bits of words that are f of two words each, where f works bit by bit as g
pub bit_in_changed : (f : ℕ → ℕ → ℕ) (g : Bool → Bool → Bool) (new old other : List ℕ)
    → ((k : ℕ) → get_or new k 0 ≡ f (get_or old k 0) (get_or other k 0))
    → ((k j : ℕ) → j < 64 → eqb (bit_at (f (get_or old k 0) (get_or other k 0)) j) 1 ≡ g (eqb (bit_at (get_or old k 0) j) 1) (eqb (bit_at (get_or other k 0) j) 1))
    → (i : ℕ) → bit_in new i ≡ g (bit_in old i) (bit_in other i)
unfolding bit_in
bit_in_changed f g new old other each bits i =
    ap (λ w. eqb (bit_at w (i % 64)) 1) (each (i / 64)) ∙ bits (i / 64) (i % 64) (omega arith)

pub or_bit : (a b j : ℕ) → eqb (bit_at (bit_or a b) j) 1 ≡ (eqb (bit_at a j) 1 || eqb (bit_at b j) 1)
or_bit a b j = grind (arith, nat_tests, bit_at_or a b j, bit_at-lt a j, bit_at-lt b j)

pub and_bit : (a b j : ℕ) → eqb (bit_at (bit_and a b) j) 1 ≡ (eqb (bit_at a j) 1 && eqb (bit_at b j) 1)
and_bit a b j = grind (arith, nat_tests, bit_at_and a b j, bit_at-lt a j, bit_at-lt b j)

pub and_not_bit : (a b j : ℕ) → b < 2 ^ 64 → j < 64 → eqb (bit_at (bit_and a (bit_not w64 b)) j) 1 ≡ (eqb (bit_at a j) 1 && not (eqb (bit_at b j) 1))
and_not_bit a b j fits within =
    grind (arith, nat_tests, bit_at_and a (bit_not w64 b) j, bit_at_not w64 b j fits within, bit_at-lt a j, bit_at-lt b j)

-- the bit of a word is that of the words
pub bit_of_word : (ws : List ℕ) (k j : ℕ) → j < 64 → bit_in ws (64 * k + j) ≡ eqb (bit_at (get_or ws k 0) j) 1
unfolding bit_in
bit_of_word ws k j within =
    let word : (64 * k + j) / 64 ≡ k = omega arith in
    let place : (64 * k + j) % 64 ≡ j = omega arith in
    ap (λ q. eqb (bit_at (get_or ws q 0) ((64 * k + j) % 64)) 1) word ∙ ap (λ r. eqb (bit_at (get_or ws k 0) r) 1) place

-- words that have the same bits are the same
pub same_word : (left right : List ℕ) (k : ℕ) → get_or left k 0 < 2 ^ 64 → get_or right k 0 < 2 ^ 64 → ((i : ℕ) → bit_in left i ≡ bit_in right i) → get_or left k 0 ≡ get_or right k 0
same_word left right k a b same =
    same_from_bits_below 64 (get_or left k 0) (get_or right k 0) a b
    (λ j within.
    let tests : eqb (bit_at (get_or left k 0) j) 1 ≡ eqb (bit_at (get_or right k 0) j) 1 =
    sym (bit_of_word left k j within) ∙ same (64 * k + j) ∙ bit_of_word right k j within in
    grind (arith, nat_tests, tests, bit_at-lt (get_or left k 0) j, bit_at-lt (get_or right k 0) j))

-- where no word has a bit under f, no bit passes g
pub bit_in_none : (f : ℕ → ℕ → ℕ) (g : Bool → Bool → Bool) (left right : List ℕ)
    → ((k : ℕ) → f (get_or left k 0) (get_or right k 0) ≡ 0)
    → ((k j : ℕ) → j < 64 → eqb (bit_at (f (get_or left k 0) (get_or right k 0)) j) 1 ≡ g (eqb (bit_at (get_or left k 0) j) 1) (eqb (bit_at (get_or right k 0) j) 1))
    → (i : ℕ) → g (bit_in left i) (bit_in right i) ≡ false
unfolding bit_in
bit_in_none f g left right none bits i =
    sym (bits (i / 64) (i % 64) (omega arith)) ∙ ap (λ w. eqb (bit_at w (i % 64)) 1) (none (i / 64)) ∙ ap (λ n. eqb n 1) (bit_at-zero (i % 64))

-- where some word has a bit under f, some bit passes g
pub bit_in_some : (f : ℕ → ℕ → ℕ) (g : Bool → Bool → Bool) (left right : List ℕ) (k : ℕ)
    → f (get_or left k 0) (get_or right k 0) ≢ 0
    → f (get_or left k 0) (get_or right k 0) < 2 ^ 64
    → ((k j : ℕ) → j < 64 → eqb (bit_at (f (get_or left k 0) (get_or right k 0)) j) 1 ≡ g (eqb (bit_at (get_or left k 0) j) 1) (eqb (bit_at (get_or right k 0) j) 1))
    → (i : ℕ) × (g (bit_in left i) (bit_in right i) ≡ true)
bit_in_some f g left right k some fits bits =
    let w : ℕ = f (get_or left k 0) (get_or right k 0) in
    let lowest = bit_at-trailing_zeros w64 w (omega (arith, some)) fits in
    let t : ℕ = trailing_zeros w64 w in (
      64 * k + t,
      ap (λ b. g b (bit_in right (64 * k + t))) (bit_of_word left k t lowest.0)
          ∙ ap (λ b. g (eqb (bit_at (get_or left k 0) t) 1) b) (bit_of_word right k t lowest.0)
          ∙ sym (bits k t lowest.0) ∙ ap (λ n. eqb n 1) lowest.1,
    )

-- ---- one word is written

module _ (ws : List ℕ) (i v : ℕ) (room : i < 64 * length ws) where
  pub written_same : bit_in (set ws (i / 64) v) i ≡ eqb (bit_at v (i % 64)) 1
  unfolding bit_in
  written_same = ap (λ w. eqb (bit_at w (i % 64)) 1) (get_or-set_same ws (i / 64) v 0 (omega arith))

  pub written_other : ((j : ℕ) → j < 64 → j ≢ i % 64 → bit_at v j ≡ bit_at (get_or ws (i / 64) 0) j) → (k : ℕ) → k ≢ i → bit_in (set ws (i / 64) v) k ≡ bit_in ws k
  unfolding bit_in
  written_other others k other =
      elim (cases_eq (k / 64) (i / 64)) [
        | inl here ↦
            ap (λ q. eqb (bit_at (get_or (set ws (i / 64) v) q 0) (k % 64)) 1) here
            ∙ ap (λ w. eqb (bit_at w (k % 64)) 1) (get_or-set_same ws (i / 64) v 0 (omega arith))
            ∙ ap (λ n. eqb n 1) (others (k % 64) (omega arith) (λ e. other (omega arith)))
            ∙ ap (λ q. eqb (bit_at (get_or ws q 0) (k % 64)) 1) (sym here)
        | inr away ↦ ap (λ w. eqb (bit_at w (k % 64)) 1) (get_or-set_other ws (i / 64) (k / 64) v 0 away)
      ]

-- ---- the first bits

pub length-first_bits : (size : ℕ) (ws : List ℕ) → length (first_bits size ws) ≡ size
unfolding first_bits
length-first_bits size ws = length-map-range_with_len (bit_in ws) 0 size

pub has-first_bits : (size : ℕ) (ws : List ℕ) (i : ℕ) → i < size → has (first_bits size ws) i ≡ bit_in ws i
unfolding first_bits
has-first_bits size ws i within = get_or-map-range_with_len (bit_in ws) 0 size i i false within (omega arith)

-- a number is a member exactly where its bit is set
pub has_bit : (size : ℕ) (ws : List ℕ) → AreWordsOf size ws → (i : ℕ) → has (first_bits size ws) i ≡ bit_in ws i
has_bit size ws are i =
    elim (cases_lt i size) [
      | inl below ↦ has-first_bits size ws i below
      | inr above ↦ has_past (first_bits size ws) i (omega (arith, length-first_bits size ws)) ∙ sym (are.none_above i above)
    ]

-- the row whose members are the bits that are set
pub first_bits_are : (size : ℕ) (ws : List ℕ) (row : List Bool) → AreWordsOf size ws → length row ≡ size → ((i : ℕ) → bit_in ws i ≡ has row i) → first_bits size ws ≡ row
first_bits_are size ws row are long each =
    same_rows (first_bits size ws) row (length-first_bits size ws ∙ sym long) (λ i. has_bit size ws are i ∙ each i)

-- the words of a row have room for each number below its size
pub in_room : (size : ℕ) (ws : List ℕ) (i : ℕ) → AreWordsOf size ws → i < size → i < 64 * length ws
in_room size ws i are within = omega (arith, are.room)
