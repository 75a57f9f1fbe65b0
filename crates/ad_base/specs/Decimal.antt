-- Numbers as they are written in request lines and in the words of commands.
use Rattle.std.specs.Prelude.{◌≡◌, ℕ, ◌^◌, ◌<◌, List, length, slice_index, EachIndex}
use Rattle.std.specs.Char.{IsAsciiDigit}
use Rattle.std.specs.Fmt.{decimal}

-- the text is the number in decimal: digits without a leading zero, or 0; at most ten of them
pub record IsNumber (text : List ℕ) (n : ℕ) : Type 0 where
  pub spelled : text ≡ decimal n
  pub small : n < 10 ^ 10

-- only digits, at least one, and no zero before another digit
pub record IsPlainDecimal (text : List ℕ) : Type 0 where
  pub digits : EachIndex text (λ i. IsAsciiDigit (slice_index text i))
  pub some : 0 < length text
  pub shortest : slice_index text 0 ≡ 48 → length text ≡ 1
