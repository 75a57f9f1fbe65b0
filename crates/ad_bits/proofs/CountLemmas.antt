-- The number of bits that are set.
use Rattle.std.proofs.Common.{◌≡◌, ℕ, zero, suc, ◌+◌, ◌*◌, ◌^◌, ◌≤◌, ◌<◌, Bool, false, cond, eqb, List, [], ◌∷◌, length, get_or, map, refl, ap, subst, sym, ◌∙◌, arith, add_assoc, add-zero}
use lib.Lanes.{mask_l}
use Rattle.std.specs.Int.{bit_at}
use Rattle.std.specs.List.{range_with_len}
use Rattle.std.specs.Prelude.{IsFalse, count_ones}
use Rattle.std.proofs.lemmas.List.FromFn.{length-map-range_with_len, get_or-map-range_with_len, map-range_with_len_more}
use Rattle.std.proofs.lemmas.Nat.{ones_le_self}
use Rattle.std.proofs.lemmas.Nat.Bits.{same_from_bits_below, bit_at-lt}
use Rattle.std.proofs.lemmas.Simd.{mask_l-lt, bit_mask_l, ones-mask_l_cons}
use Rattle.ad_bits.specs.Rows.{member_count}
use Rattle.ad_bits.specs.Words.{bit_in, first_bits}
use Rattle.ad_bits.proofs.Bits.{bit_of_word, length-first_bits}
use Rattle.ad_bits.proofs.Rows.{member_count-append, member_count-le}

-- the bits of one word
abbrev bits_of : ℕ → ℕ → List Bool
bits_of w n = map (λ j. eqb (bit_at w j) 1) (range_with_len 0 n)

-- one bit more
pub count_more : (f : ℕ → Bool) (n : ℕ) → member_count (map f (range_with_len 0 (n + 1))) ≡ member_count (map f (range_with_len 0 n)) + cond (f n) 1 0
count_more f n =
    ap member_count (map-range_with_len_more f 0 n n (omega arith)) ∙ member_count-append (map f (range_with_len 0 n)) (f n ∷ [])
    ∙ ap (λ m. member_count (map f (range_with_len 0 n)) + m) (add-zero (cond (f n) 1 0))

ones_of_mask : (ms : List Bool) → count_ones (mask_l ms) ≡ member_count ms
ones_of_mask [] = omega (arith, ones_le_self 0)
ones_of_mask (m ∷ ms) = ones-mask_l_cons m ms ∙ ap (λ n. cond m 1 0 + n) (ones_of_mask ms)

bit_of_mask : (n : ℕ) → n < 2 → n ≡ cond (eqb n 1) 1 0
bit_of_mask zero small = refl
bit_of_mask (suc zero) small = refl
bit_of_mask (suc (suc n)) small = absurd (omega arith)

-- `count_ones` of a word is how many of its bits are set
pub ones_of_word : (w : ℕ) → w < 2 ^ 64 → count_ones w ≡ member_count (bits_of w 64)
ones_of_word w fits =
    let ms : List Bool = bits_of w 64 in
    let long : length ms ≡ 64 = length-map-range_with_len (λ j. eqb (bit_at w j) 1) 0 64 in
    let small : mask_l ms < 2 ^ 64 = let P : ℕ → Type 0 = λ n. mask_l ms < 2 ^ n in subst P long (mask_l-lt ms) in
    let same : w ≡ mask_l ms =
    same_from_bits_below 64 w (mask_l ms) fits small
    (λ i within.
    bit_of_mask (bit_at w i) (bit_at-lt w i)
    ∙ ap (λ b. cond b 1 0) (sym (get_or-map-range_with_len (λ j. eqb (bit_at w j) 1) 0 64 i i false within (omega arith)))
    ∙ sym (bit_mask_l ms i)) in
    ap count_ones same ∙ ones_of_mask ms

-- the bits of one word more
part_of_word : (ws : List ℕ) (k n : ℕ) → n ≤ 64 → member_count (first_bits (64 * k + n) ws) ≡ member_count (first_bits (64 * k) ws) + member_count (bits_of (get_or ws k 0) n)
unfolding first_bits
part_of_word ws k zero within =
    let same : 64 * k + 0 ≡ 64 * k = omega arith in
    ap (λ m. member_count (map (bit_in ws) (range_with_len 0 m))) same ∙ omega arith
part_of_word ws k (suc n) within =
    let w : ℕ = get_or ws k 0 in
    let last : ℕ = member_count (map (bit_in ws) (range_with_len 0 (64 * k))) in
    let next : 64 * k + suc n ≡ 64 * k + n + 1 = omega arith in
    let more : n + 1 ≡ suc n = omega arith in
    ap (λ m. member_count (map (bit_in ws) (range_with_len 0 m))) next
    ∙ count_more (bit_in ws) (64 * k + n)
    ∙ ap (λ m. m + cond (bit_in ws (64 * k + n)) 1 0) (part_of_word ws k n (omega arith))
    ∙ ap (λ b. last + member_count (bits_of w n) + cond b 1 0) (bit_of_word ws k n (omega arith))
    ∙ add_assoc last (member_count (bits_of w n)) (cond (eqb (bit_at w n) 1) 1 0)
    ∙ ap (λ m. last + m) (sym (count_more (λ j. eqb (bit_at w j) 1) n) ∙ ap (λ m. member_count (bits_of w m)) more)

pub count_word : (ws : List ℕ) (k : ℕ) → get_or ws k 0 < 2 ^ 64 → member_count (first_bits (64 * (k + 1)) ws) ≡ member_count (first_bits (64 * k) ws) + count_ones (get_or ws k 0)
count_word ws k fits =
    let next : 64 * (k + 1) ≡ 64 * k + 64 = omega arith in
    ap (λ m. member_count (first_bits m ws)) next ∙ part_of_word ws k 64 (omega arith)
    ∙ ap (λ m. member_count (first_bits (64 * k) ws) + m) (sym (ones_of_word (get_or ws k 0) fits))

-- bits above the size that aren't set count for nothing
pub count_above : (ws : List ℕ) (size more : ℕ) → ((i : ℕ) → size ≤ i → IsFalse (bit_in ws i)) → member_count (first_bits (size + more) ws) ≡ member_count (first_bits size ws)
unfolding first_bits
count_above ws size zero none =
    let same : size + 0 ≡ size = omega arith in
    ap (λ m. member_count (map (bit_in ws) (range_with_len 0 m))) same
count_above ws size (suc more) none =
    let next : size + suc more ≡ size + more + 1 = omega arith in
    let before : ℕ = member_count (map (bit_in ws) (range_with_len 0 (size + more))) in
    let nothing : before + 0 ≡ before = omega arith in
    ap (λ m. member_count (map (bit_in ws) (range_with_len 0 m))) next
    ∙ count_more (bit_in ws) (size + more)
    ∙ ap (λ b. before + cond b 1 0) (none (size + more) (omega arith))
    ∙ nothing
    ∙ count_above ws size more none

pub count_bound : (n : ℕ) (ws : List ℕ) → member_count (first_bits n ws) ≤ n
count_bound n ws = omega (arith, member_count-le (first_bits n ws), length-first_bits n ws)
