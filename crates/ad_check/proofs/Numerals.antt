-- Digits as a test, and as what `parse` reads.
use Rattle.std.proofs.Common.{◌≡◌, ℕ, ◌<◌, Bool, true, false, List, [], ◌∷◌, length, Result, Ok, Err, refl, sym, subst}
use Rattle.std.specs.Prelude.{◌&&◌, ◌≢◌, nat_lt, slice_index}
use Rattle.std.specs.List.{list_all}
use Rattle.std.specs.Char.{digit_value}
use Rattle.std.specs.Result.{is_ok}
use Rattle.std.specs.Str.Parse.{AllDigits, IsNumeral, digits_value, ParsesUnsigned, without_leading_plus}
use Rattle.std.proofs.lemmas.Bool.{ltb-true, lt-ltb, ne_eqb, true≢false}
use Rattle.ad_check.specs.Machine.{is_number}

digits_pass : (ds : List ℕ) → AllDigits 10 ds → list_all (λ d. nat_lt (digit_value d) 10) ds ≡ true
digits_pass [] h = refl
digits_pass (d ∷ ds) h = rw (lt-ltb (digit_value d) 10 h.0) (digits_pass ds h.1)

both : (a b : Bool) → (a && b) ≡ true → (a ≡ true) × (b ≡ true)
both true b e = (refl, e)
both false b e = absurd (true≢false (sym e))

digits_from : (ds : List ℕ) → list_all (λ d. nat_lt (digit_value d) 10) ds ≡ true → AllDigits 10 ds
digits_from [] e = tt
digits_from (d ∷ ds) e =
    let parts = both _ _ e in
    (ltb-true _ _ parts.0, digits_from ds parts.1)

-- the test says what it says
pub number_says : (ds : List ℕ) → is_number ds ≡ true → IsNumeral 10 ds × (digits_value 10 ds < 4294967296)
number_says ds e =
    let rest = both (nat_lt 0 (length ds) && list_all (λ d. nat_lt (digit_value d) 10) ds) (nat_lt (digits_value 10 ds) 4294967296) e in
    let parts = both (nat_lt 0 (length ds)) (list_all (λ d. nat_lt (digit_value d) 10) ds) rest.0 in
    ((ltb-true _ _ parts.0, digits_from ds parts.1), ltb-true _ _ rest.1)

pub number_is : (ds : List ℕ) → IsNumeral 10 ds → digits_value 10 ds < 4294967296 → is_number ds ≡ true
number_is ds h small = rw (lt-ltb 0 (length ds) h.0, digits_pass ds h.1, lt-ltb (digits_value 10 ds) 4294967296 small)

by_cases : (b : Bool) (P : Type 0) → (P → b ≡ true) → (b ≡ true → P) → (P → ⊥) → b ≡ false
by_cases true P to from never = absurd (never (from refl))
by_cases false P to from never = refl

-- what `parse` reads, where no plus stands first
pub parsed : {E : Type 0} → (bs : List ℕ) (r : Result ℕ E) → ParsesUnsigned 32 10 bs r → without_leading_plus bs ≡ bs → is_ok r ≡ is_number bs
parsed bs (Ok n) h plain = sym (subst (λ ds. IsNumeral 10 ds × (digits_value 10 ds < 4294967296) → is_number bs ≡ true) (sym plain) (λ q. number_is bs q.0 q.1) h.0)
parsed bs (Err e) h plain = sym (by_cases (is_number bs) (IsNumeral 10 bs × (digits_value 10 bs < 4294967296)) (λ q. number_is bs q.0 q.1) (number_says bs) (λ q. h (subst (λ ds. IsNumeral 10 ds × (digits_value 10 ds < 4294967296)) (sym plain) q)))

-- a text whose first byte isn't a plus
pub without_plus : (bs : List ℕ) → slice_index bs 0 ≢ 43 → without_leading_plus bs ≡ bs
without_plus bs h = rw (ne_eqb (slice_index bs 0) 43 h) refl
