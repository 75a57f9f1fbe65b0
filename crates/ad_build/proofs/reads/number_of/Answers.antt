use Rattle.std.proofs.Common.{◌≡◌, ℕ, List, true, sym, subst}
use Rattle.ad_build.proofs.Numbers.{AreDigits, number_parsed, no_number}
use Rattle.ad_build.proofs.reads.number_of.Goals as goal

pub returns-then-are_digits : goal.returns-then-are_digits
returns-then-are_digits c =
    number_parsed c.args.word.now c.parse.result c.ok.result c.parse.ensures.value.0
    (let P : List ℕ → Type 0 = λ word. AreDigits word in subst P c.as_bytes.ensures.value (c.are_digits.ensures.0 c.if-are_digits.true)) c.ok.ensures.value

pub returns-else-are_digits : goal.returns-else-are_digits
returns-else-are_digits c = no_number c.args.word.now (λ are.
    let P : List ℕ → Type 0 = λ word. AreDigits word in
    let found : c.are_digits.result ≡ true = c.are_digits.ensures.1 (subst P (sym c.as_bytes.ensures.value) are) in cc)
