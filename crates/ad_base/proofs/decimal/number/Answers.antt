-- A plain text is parsed to its number; a number's text is plain and has at most ten digits.
use Rattle.std.proofs.Common.{◌≡◌, ◌≤◌, length, IsSomeAnd, arith, true}
use Rattle.ad_base.specs.Decimal.{IsNumber, IsPlainDecimal}
use Rattle.ad_base.proofs.Numbers.{number_is_short, number_is_plain, plain_is_utf8, parse_found, found_if, found_not_none}
use Rattle.ad_base.proofs.decimal.number.Goals as goal
use Rattle.ad_base.proofs.decimal.number.Goals.{then-text-gt-MOST_DIGITS-via-then-text-gt-MOST_DIGITS, then-text-gt-MOST_DIGITS-via-else-text-gt-MOST_DIGITS+then-not-is_plain_decimal}

pub returns-then-text-gt-MOST_DIGITS-clause-none : goal.returns-then-text-gt-MOST_DIGITS-clause-none
returns-then-text-gt-MOST_DIGITS-clause-none c = λ n number.
    elim c.then-text-gt-MOST_DIGITS.branch [
      | then-text-gt-MOST_DIGITS-via-then-text-gt-MOST_DIGITS w ↦
          let short : length c.args.text.now ≤ 10 = number_is_short _ n number in absurd (omega arith)
      | then-text-gt-MOST_DIGITS-via-else-text-gt-MOST_DIGITS+then-not-is_plain_decimal w ↦
          let is_plain : w.is_plain_decimal.result ≡ true = w.is_plain_decimal.ensures.1 (number_is_plain _ n number) in cc
    ]

found : (c : goal.After-ok) → IsSomeAnd c.ok.result (IsNumber c.args.text.now)
found c =
    let plain : IsPlainDecimal c.args.text.now = c.is_plain_decimal.ensures.0 c.if-not-is_plain_decimal.false in
    parse_found c.args.text.now c.in-Ok.digits.now c.parse.result c.ok.result c.in-Ok.ensures.cases.0 c.parse.ensures.value.0 c.ok.ensures.value plain c.if-text-gt-MOST_DIGITS.false

pub returns-in-Ok-clause-found : goal.returns-in-Ok-clause-found
returns-in-Ok-clause-found c = found_if c.ok.result (IsNumber c.args.text.now) (found c)

pub returns-in-Ok-clause-none : goal.returns-in-Ok-clause-none
returns-in-Ok-clause-none c = found_not_none c.ok.result (IsNumber c.args.text.now) _ (found c)

pub returns-in-Err-clause-none : goal.returns-in-Err-clause-none
returns-in-Err-clause-none c =
    let plain : IsPlainDecimal c.args.text.now = c.is_plain_decimal.ensures.0 c.if-not-is_plain_decimal.false in
    λ n number. absurd (c.in-Err.ensures.cases.0 (plain_is_utf8 _ plain))
