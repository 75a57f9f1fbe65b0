-- How many of the numbers up to one are divided by ten and by a hundred.
use Rattle.std.proofs.Common.{◌≡◌, ℕ, ◌+◌, ◌/◌, ◌%◌, ◌≤◌, ◌==◌, true, false, Bool, refl, arith, eqb-true}
use Rattle.std.proofs.lemmas.Bool.{eqb-false}

-- one where the test is passed, and else nothing
abbrev pub one_if : Bool → ℕ
one_if true = 1
one_if false = 0

tens : (n : ℕ) → n / 10 + one_if ((n + 1) % 10 == 0) ≡ (n + 1) / 10
tens n = elim ((n + 1) % 10 == 0) as (λ b. ((n + 1) % 10 == 0) ≡ b → n / 10 + one_if b ≡ (n + 1) / 10) [
  | true ↦ λ e. let whole : (n + 1) % 10 ≡ 0 = eqb-true _ _ e in omega arith
  | false ↦ λ e. let rest : (n + 1) % 10 ≡ 0 → ⊥ = eqb-false _ _ e in omega arith
] refl

hundreds : (n : ℕ) → n / 100 + one_if ((n + 1) % 100 == 0) ≡ (n + 1) / 100
hundreds n = elim ((n + 1) % 100 == 0) as (λ b. ((n + 1) % 100 == 0) ≡ b → n / 100 + one_if b ≡ (n + 1) / 100) [
  | true ↦ λ e. let whole : (n + 1) % 100 ≡ 0 = eqb-true _ _ e in omega arith
  | false ↦ λ e. let rest : (n + 1) % 100 ≡ 0 → ⊥ = eqb-false _ _ e in omega arith
] refl

-- how many axioms there are of the classes from 1 up to a number: one each, and more where ten or a hundred divides it
abbrev pub count_to : ℕ → ℕ
count_to n = n + n / 10 + n / 100

pub count_more : (n : ℕ) → count_to (n + 1) ≡ count_to n + 1 + one_if ((n + 1) % 10 == 0) + one_if ((n + 1) % 100 == 0)
count_more n = omega (arith, tens n, hundreds n)

pub count_few : (n : ℕ) → n ≤ 10000 → count_to n ≤ 11100
count_few n few = omega arith
