-- A row beside the words that hold it.
use Rattle.std.proofs.Common.{◌≡◌, ℕ, ◌^◌, ◌≤◌, ◌<◌, Bool, false, List, length, replicate, ap, sym, subst, ◌∙◌, arith, eqb, ◌+◌, ◌-◌, ◌*◌, ◌/◌, ◌%◌, inl, inr, get_or}
use Rattle.std.specs.Int.{bit_at}
use Rattle.std.specs.Prelude.{IsFalse, Option, Some, None, IfSome, IfNone}
use Rattle.std.proofs.lemmas.Bool.{cases_lt}
use Rattle.std.proofs.lemmas.List.{get_or-replicate, get_or_past, length-replicate}
use Rattle.std.proofs.lemmas.Nat.Bits.{bit_at-zero}
use Rattle.ad_bits.specs.Rows.{has, member_count, IsLeastFrom, HasNoneFrom}
use Rattle.ad_bits.specs.Words.{bit_in, first_bits, AreWordsOf, words_for, IsLowestFrom}
use Rattle.ad_bits.proofs.Rows.{has_past}
use Rattle.ad_bits.proofs.CountLemmas.{count_above}
use Rattle.ad_bits.proofs.Bits.{length-first_bits, has_bit, first_bits_are}

-- the words show the row: the size, and a bit for each member
pub record IsShown (row : List Bool) (size : ℕ) (ws : List ℕ) : Type 0 where
  pub fits : size < 2 ^ 32
  pub size_is : length row ≡ size
  pub room : length ws ≡ words_for size
  pub bits : (i : ℕ) → has row i ≡ bit_in ws i

-- what a row's fields show, as they are lent to a call
pub shown : (size : ℕ) (items lent : List ℕ) (row : List Bool) → AreWordsOf size items → first_bits size items ≡ row → lent ≡ items → IsShown row size lent
shown size items lent row are view same = record {
  fits = are.fits;
  size_is = sym (ap length view) ∙ length-first_bits size items;
  room = ap length same ∙ are.room;
  bits = λ i. ap (λ r. has r i) (sym view) ∙ has_bit size items are i ∙ ap (λ ws. bit_in ws i) (sym same);
}

-- a row above its words again, after they were written
pub closed : (size : ℕ) (stored new : List ℕ) (row : List Bool) → stored ≡ new → IsShown row size new → AreWordsOf size stored × (first_bits size stored ≡ row)
closed size stored new row same show =
    let P : List ℕ → Type 0 = λ ws. AreWordsOf size ws × (first_bits size ws ≡ row) in
    let are : AreWordsOf size new = record {
      fits = show.fits;
      room = show.room;
      none_above = λ i above. sym (show.bits i) ∙ has_past row i (omega (arith, show.size_is));
    } in
    subst P (sym same) (are, first_bits_are size new row are show.size_is (λ i. sym (show.bits i)))

-- words that are 0 have no bit
pub bit_in_zeros : (n i : ℕ) → bit_in (replicate n 0) i ≡ false
unfolding bit_in
bit_in_zeros n i =
    let word : get_or (replicate n 0) (i / 64) 0 ≡ 0 =
    elim (cases_lt (i / 64) n) [
      | inl within ↦ get_or-replicate n (i / 64) 0 0 within
      | inr past ↦ get_or_past (replicate n 0) (i / 64) 0 (omega (arith, length-replicate {A = ℕ} n 0))
    ] in
    ap (λ w. eqb (bit_at w (i % 64)) 1) word ∙ ap (λ n. eqb n 1) (bit_at-zero (i % 64))

-- the bits that are set are as many as the row's members
pub count_shown : (size : ℕ) (items lent : List ℕ) (row : List Bool) → AreWordsOf size items → first_bits size items ≡ row → lent ≡ items
    → member_count (first_bits (64 * length lent) lent) ≡ member_count row
count_shown size items lent row are view same =
    let more : ℕ = 64 * length items - size in
    let all : 64 * length items ≡ size + more = omega (arith, are.room) in
    ap (λ (ws : List ℕ). member_count (first_bits (64 * length ws) ws)) same ∙ ap (λ n. member_count (first_bits n items)) all
    ∙ count_above items size more are.none_above ∙ ap member_count view

-- the lowest bit is the least member
pub least_shown : (row : List Bool) (size : ℕ) (ws : List ℕ) (from : ℕ) (r : Option ℕ) → IsShown row size ws → IfSome r (IsLowestFrom ws from) → IfSome r (IsLeastFrom row from)
least_shown row size ws from None show low = tt
least_shown row size ws from (Some i) show low = record {
  at_or_above = low.at_or_above;
  member = show.bits i ∙ low.set;
  none_between = λ k a b. show.bits k ∙ low.none_between k a b;
}

pub none_shown : (row : List Bool) (size : ℕ) (ws : List ℕ) (from : ℕ) (r : Option ℕ) → IsShown row size ws → IfNone r ((k : ℕ) → from ≤ k → IsFalse (bit_in ws k)) → IfNone r (HasNoneFrom row from)
none_shown row size ws from None show none = λ k above. show.bits k ∙ none k above
none_shown row size ws from (Some i) show none = tt
