-- What the parser of std gives for a text of one to ten digits without a leading zero.
use Rattle.std.proofs.Common.{◌≡◌, ℕ, ◌^◌, ◌<◌, ◌≤◌, List, length, get_or, Result, Ok, zero, suc, arith, sym, ap, subst, ◌∙◌, Option, None, Some, IsSomeAnd, IfSome, IfNone}
use Rattle.std.specs.Result.{result_ok}
use Rattle.std.specs.Int.{IsInRange}
use Rattle.std.specs.Str.{IsUtf8}
use Rattle.std.specs.Str.Parse.{digits_value, ParsesUnsigned}
use Rattle.std.specs.Fmt.{decimal}
use Rattle.std.proofs.lemmas.Str.{IsUtf8-from_ascii}
use Rattle.std.proofs.lemmas.Str.Parse.{IsNumeralModel, numerals_by_value, tells_by_index, parse_gives, digits_value_short}
use Rattle.std.proofs.lemmas.Fmt.{IsAscii-from_digits, decimal-digits_value, digits_decimal, length-decimal-le, decimal_nonempty, first_decimal, decimal_digit}
use Rattle.ad_base.specs.Decimal.{IsNumber, IsPlainDecimal}

model : IsNumeralModel (λ text. (i : ℕ) → i < length text → IsInRange 48 57 (get_or text i 0)) (digits_value 10)
model = numerals_by_value _ tells_by_index

pub plain_is_utf8 : (text : List ℕ) → IsPlainDecimal text → IsUtf8 text
plain_is_utf8 text plain = IsUtf8-from_ascii text (IsAscii-from_digits text (model.to text plain.digits))

pub value_is_small : (text : List ℕ) → IsPlainDecimal text → length text ≤ 10 → digits_value 10 text < 10 ^ 10
value_is_small text plain short = digits_value_short model text 10 plain.digits short

-- the parser gives the value of the digits
pub plain_parses : {E : Type 0} (text : List ℕ) (r : Result ℕ E) → ParsesUnsigned 64 10 text r → IsPlainDecimal text → length text ≤ 10 → r ≡ Ok (digits_value 10 text)
plain_parses text r h plain short =
    let small : digits_value 10 text < 10 ^ 10 = value_is_small text plain short in
    parse_gives model 64 text r h plain.digits plain.some (omega arith)

-- and the text is the decimal of that value
pub plain_is_number : (text : List ℕ) → IsPlainDecimal text → length text ≤ 10 → IsNumber text (digits_value 10 text)
plain_is_number text plain short =
    let small : digits_value 10 text < 10 ^ 10 = value_is_small text plain short in
    record { spelled = sym (decimal-digits_value model text plain.digits plain.some plain.shortest (omega arith)); small = small }

decimal_shortest : (n : ℕ) → n < 10 ^ 10 → get_or (decimal n) 0 0 ≡ 48 → length (decimal n) ≡ 1
decimal_shortest zero small e = ap length (decimal_digit 0 (omega arith))
decimal_shortest (suc n) small e =
    let above : 48 < get_or (decimal (suc n)) 0 0 = first_decimal (suc n) (omega arith) (omega arith) in absurd (omega arith)

-- a number's text is plain
pub decimal_is_plain : (n : ℕ) → n < 10 ^ 10 → IsPlainDecimal (decimal n)
decimal_is_plain n small = record {
  digits = digits_decimal model n (omega arith);
  some = decimal_nonempty n (omega arith);
  shortest = decimal_shortest n small;
}

pub number_is_plain : (text : List ℕ) (n : ℕ) → IsNumber text n → IsPlainDecimal text
number_is_plain text n h = let P : List ℕ → Type 0 = λ t. IsPlainDecimal t in subst P (sym h.spelled) (decimal_is_plain n h.small)

pub number_is_short : (text : List ℕ) (n : ℕ) → IsNumber text n → length text ≤ 10
number_is_short text n h =
    let small : n < 10 ^ 10 = h.small in
    let P : List ℕ → Type 0 = λ t. length t ≤ 10 in subst P (sym h.spelled) (length-decimal-le 10 n (omega arith) small (omega arith))

-- what the parser answers for a plain text is its number
pub parse_found : {E : Type 0} (text digits : List ℕ) (r : Result ℕ E) (o : Option ℕ) → digits ≡ text → ParsesUnsigned 64 10 digits r → o ≡ result_ok r → IsPlainDecimal text → length text ≤ 10 → IsSomeAnd o (IsNumber text)
parse_found {E} text digits r o same parses e plain short =
    let parsed : ParsesUnsigned 64 10 text r = (let P : List ℕ → Type 0 = λ t. ParsesUnsigned {E = E} 64 10 t r in subst P same parses) in
    let P : Option ℕ → Type 0 = λ x. IsSomeAnd x (IsNumber text) in
    subst P (sym (e ∙ ap result_ok (plain_parses text r parsed plain short))) (plain_is_number text plain short)

pub found_if : (o : Option ℕ) (P : ℕ → Type 0) → IsSomeAnd o P → IfSome o P
found_if None P h = absurd h
found_if (Some n) P h = h

pub found_not_none : (o : Option ℕ) (P : ℕ → Type 0) (Q : Type 0) → IsSomeAnd o P → IfNone o Q
found_not_none None P Q h = absurd h
found_not_none (Some n) P Q h = tt
