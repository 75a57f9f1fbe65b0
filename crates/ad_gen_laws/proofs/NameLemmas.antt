-- What a name says of its class: the number, and that it is no longer than 23 bytes.
use Rattle.std.proofs.Common.{◌≡◌, ℕ, ◌<◌, ◌≤◌, List, length, get_or, drop, codes, decimal, arith, length-append}
use Rattle.std.specs.Int.{IsInRange}
use Rattle.std.specs.Str.Parse.{digits_value}
use Rattle.std.proofs.lemmas.Str.Parse.{IsNumeralModel, numerals_by_value, tells_by_index}
use Rattle.std.proofs.lemmas.Fmt.{digits_value-decimal, length-decimal-le}
use Rattle.ad_gen.specs.Names.{class_name, twin_name}

numerals : IsNumeralModel (λ text. (i : ℕ) → i < length text → IsInRange 48 57 (get_or text i 0)) (digits_value 10)
numerals = numerals_by_value _ tells_by_index

-- the number behind the three letters that a name begins with
abbrev pub number_in : List ℕ → ℕ
number_in name = digits_value 10 (drop 3 name)

pub number_in-class : (number : ℕ) → number ≤ 10000 → number_in (class_name number) ≡ number
number_in-class number few = digits_value-decimal numerals number (omega arith)

digits : (number : ℕ) → number ≤ 10000 → length (decimal number) ≤ 20
digits number few = length-decimal-le 20 number (omega arith) (omega arith) (omega arith)

pub class_name-short : (number : ℕ) → number ≤ 10000 → length (class_name number) ≤ 23
class_name-short number few = omega (arith, digits number few, length-append (codes "u:C") (decimal number))

pub twin_name-short : (number : ℕ) → number ≤ 10000 → length (twin_name number) ≤ 23
twin_name-short number few = omega (arith, digits number few, length-append (codes "u:D") (decimal number))
