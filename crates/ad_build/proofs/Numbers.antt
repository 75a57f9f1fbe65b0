-- The number that a word of digits is.
use Rattle.std.proofs.Common.{◌≡◌, ◌≢◌, ℕ, ◌<◌, ◌≤◌, ◌^◌, Bool, true, false, cond, ◌&&◌, List, [], ◌∷◌, length, get_or, nat_le, Option, None, Some, Result, Ok, Err, refl, sym, ◌∙◌, ap, arith}
use Rattle.std.specs.Result.{OkIff, result_ok}
use Rattle.std.specs.Int.{IsInRange}
use Rattle.std.specs.Str.{all_ascii_digits}
use Rattle.std.specs.Str.Parse.{IsNumeral, AllDigits, digits_value, ParsesUnsigned}
use Rattle.std.proofs.lemmas.Grind.{common_steps}
use Rattle.std.proofs.lemmas.Str.Parse.{IsNumeralModel, numerals_by_value, tells_all_ascii_digits, tells_by_index, parse_digits}
use Rattle.ad_build.specs.Reads.{number_of, some_digits}

abbrev pub AreDigits : List ℕ → Type 0
AreDigits word = (i : ℕ) → i < length word → IsInRange 48 57 (get_or word i 0)

pub by_test : IsNumeralModel (λ ds. all_ascii_digits ds ≡ true) (digits_value 10)
by_test = numerals_by_value _ tells_all_ascii_digits

by_index : IsNumeralModel AreDigits (digits_value 10)
by_index = numerals_by_value _ tells_by_index

some_some : (word : List ℕ) → 0 < length word → all_ascii_digits word ≡ true → some_digits word ≡ true
some_some [] h e = absurd (omega arith)
some_some (c ∷ cs) h e = e

some_all : (word : List ℕ) → some_digits word ≡ true → all_ascii_digits word ≡ true
some_all [] e = refl
some_all (c ∷ cs) e = e

number_if : (b c : Bool) (v : ℕ) → b ≡ true → c ≡ true → cond (b && c) (Some v) None ≡ Some v
number_if b c v e f = ap (λ x. cond (x && c) (Some v) None) e ∙ ap (λ x. cond x (Some v) None) f

and_false : (b c : Bool) → c ≡ false → (b && c) ≡ false
and_false true c e = e
and_false false c e = refl

pub number_known : (word : List ℕ) → 0 < length word → all_ascii_digits word ≡ true → digits_value 10 word ≤ 4294967295 → number_of word ≡ Some (digits_value 10 word)
number_known word some all small =
    let within : nat_le (digits_value 10 word) 4294967295 ≡ true = grind (arith, common_steps) in
    number_if (some_digits word) (nat_le (digits_value 10 word) 4294967295) (digits_value 10 word) (some_some word some all) within

number_none : (word : List ℕ) → (0 < length word → digits_value 10 word ≤ 4294967295 → ⊥) → number_of word ≡ None
number_none [] h = refl
number_none (c ∷ cs) h =
    let some : 0 < length (c ∷ cs) = omega arith in
    let above : ¬ (digits_value 10 (c ∷ cs) ≤ 4294967295) = h some in
    let beyond : nat_le (digits_value 10 (c ∷ cs)) 4294967295 ≡ false = grind (arith, common_steps) in
    ap (λ x. cond x (Some (digits_value 10 (c ∷ cs))) None) (and_false (some_digits (c ∷ cs)) (nat_le (digits_value 10 (c ∷ cs)) 4294967295) beyond)

by_parsing : {E : Type 0} (word : List ℕ) (r : Result ℕ E) → OkIff r ((0 < length word) × (digits_value 10 word < 2 ^ 32)) (digits_value 10 word) → all_ascii_digits word ≡ true → result_ok r ≡ number_of word
by_parsing word (Ok x) h all = ap Some h.1 ∙ sym (number_known word h.0.0 all (omega (arith, h.0.1)))
by_parsing word (Err e) h all = sym (number_none word (λ some small. h (some, omega (arith, small))))

pub number_parsed : {E : Type 0} (word : List ℕ) (r : Result ℕ E) (o : Option ℕ) → ParsesUnsigned 32 10 word r → AreDigits word → o ≡ result_ok r → o ≡ number_of word
number_parsed word r o h are e =
    let all : all_ascii_digits word ≡ true = by_test.from word (by_index.to word are) in
    e ∙ by_parsing word r (parse_digits by_test 32 word r h all) all

cond_none : (b c : Bool) (v : ℕ) → (b ≡ true → ⊥) → None ≡ cond (b && c) (Some v) None
cond_none true c v h = absurd (h refl)
cond_none false c v h = refl

pub no_number : (word : List ℕ) → (AreDigits word → ⊥) → None ≡ number_of word
no_number word h = cond_none (some_digits word) (nat_le (digits_value 10 word) 4294967295) (digits_value 10 word) (λ some. h (by_index.from word (by_test.to word (some_all word some))))
