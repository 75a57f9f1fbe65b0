-- Going through the members of a row, and putting those that pass a test into an atom.
use Rattle.std.proofs.Common.{◌≡◌, ◌≢◌, ℕ, zero, suc, ◌+◌, ◌<◌, ◌≤◌, Bool, true, false, cond, ◌&&◌, List, length, get_or, set, ltb, Option, Some, None, IsTrue, IsFalse, inl, inr, sym, ◌∙◌, ap, refl, arith, add-one, get_or-set_same, get_or-set_other, length-set}
use Rattle.std.proofs.lemmas.Bool.{cases_eq, cases_lt}
use Rattle.std.proofs.lemmas.Bool.Decides.{nat_tests}
use Rattle.ad_bits.specs.Rows.{has, HasNoneFrom, IsLeastFrom}
use Rattle.ad_bits.proofs.Rows.{within_size}
use Rattle.ad_theory.specs.Numbers.{sum_where}
use Rattle.ad_theory.proofs.Members.{either, not_both}

-- the entry of b, where those below `from` that pass the test were put into the atom
abbrev pub entry_of : (ℕ → Bool) → List (Option ℕ) → ℕ → ℕ → ℕ → Option ℕ
entry_of test before atom from b = cond (test b && ltb b from) (Some atom) (get_or before b None)

-- so many members below `from` pass the test, and were put into the atom
pub record IsGathered (test : ℕ → Bool) (before : List (Option ℕ)) (atom from size : ℕ) (after : List (Option ℕ)) : Type 0 where
  pub counted : size ≡ sum_where test (λ _. 1) from
  pub long : length after ≡ length before
  pub entries : (b : ℕ) → get_or after b None ≡ entry_of test before atom from b

module _ (test : ℕ → Bool) where
  -- numbers that do not pass add nothing
  sum_gap : (from b : ℕ) → from ≤ b → ((k : ℕ) → from ≤ k → k < b → IsFalse (test k)) → sum_where test (λ _. 1) b ≡ sum_where test (λ _. 1) from
  sum_gap from zero l f = let e : from ≡ zero = omega arith in ap (sum_where test (λ _. 1)) (sym e)
  sum_gap from (suc b) l f = elim (cases_lt b from) [
    | inl h ↦ (let e : from ≡ suc b = omega arith in ap (sum_where test (λ _. 1)) (sym e))
    | inr h ↦ (let out : test b ≡ false = f b h (omega arith) in rw out (omega (arith, sum_gap from b h (λ k g i. f k g (omega arith)))))
  ]

  pub sum_le : (n : ℕ) → sum_where test (λ _. 1) n ≤ n
  sum_le zero = omega arith
  sum_le (suc n) = let rest = sum_le n in elim (either (test n)) [ inl t ↦ rw t (omega arith) | inr o ↦ rw o (omega arith) ]

  entry_same : (before : List (Option ℕ)) (atom from to k : ℕ) → (IsTrue (test k) → ltb k from ≡ ltb k to) → entry_of test before atom from k ≡ entry_of test before atom to k
  entry_same before atom from to k f = elim (either (test k)) [
    | inl t ↦ (let e : ltb k from ≡ ltb k to = f t in rw (t, e) refl)
    | inr o ↦ rw o refl
  ]

  module _ (before : List (Option ℕ)) (atom : ℕ) where
    -- what was not reached yet is as before
    pub not_reached : (from size b : ℕ) (after : List (Option ℕ)) → IsGathered test before atom from size after → from ≤ b → get_or after b None ≡ get_or before b None
    not_reached from size b after g l = g.entries b ∙ (let e : ltb b from ≡ false = grind (arith, nat_tests) in elim (either (test b)) [ inl t ↦ rw (t, e) refl | inr o ↦ rw o refl ])

    module _ (row : List Bool) (long : length row ≡ length before) (within : (k : ℕ) → IsTrue (test k) → IsTrue (has row k)) where
      -- among the numbers that pass, none stands between the last member and the next
      gap : (from b : ℕ) → IsLeastFrom row from b → (k : ℕ) → from ≤ k → k < b → IsFalse (test k)
      gap from b least k l h = elim (either (test k)) [ inr o ↦ o | inl t ↦ absurd (not_both (within k t) (least.none_between k l h)) ]

      other : (from b k : ℕ) → IsLeastFrom row from b → k ≢ b → entry_of test before atom from k ≡ entry_of test before atom (b + 1) k
      other from b k least n = entry_same before atom from (b + 1) k (λ t. elim (cases_lt k from) [
        | inl h ↦ (let a = least.at_or_above in grind (arith, nat_tests))
        | inr h ↦ elim (cases_lt k b) [
          | inl i ↦ absurd (not_both t (gap from b least k h i))
          | inr i ↦ grind (arith, nat_tests)
        ]
      ])

      sum_to : (from b : ℕ) → IsLeastFrom row from b → sum_where test (λ _. 1) (b + 1) ≡ cond (test b) 1 0 + sum_where test (λ _. 1) from
      sum_to from b least = rw add-one (ap (λ n. cond (test b) 1 0 + n) (sum_gap from b least.at_or_above (gap from b least)))

      pub one_gathered : (from size b : ℕ) (after : List (Option ℕ)) → IsGathered test before atom from size after → IsLeastFrom row from b → IsTrue (test b) → IsGathered test before atom (b + 1) (size + 1) (set after b (Some atom))
      one_gathered from size b after g least t = record {
        counted = (let e = sum_to from b least in let f : test b ≡ true = t in let e' : sum_where test (λ _. 1) (b + 1) ≡ 1 + sum_where test (λ _. 1) from = rw f at e in omega (arith, g.counted));
        long = rw length-set g.long;
        entries = λ k. elim (cases_eq k b) [
          | inl e ↦ here k e
          | inr n ↦ rw get_or-set_other (g.entries k ∙ other from b k least n)
        ];
      }
        where
          here : (k : ℕ) → k ≡ b → get_or (set after b (Some atom)) k None ≡ entry_of test before atom (b + 1) k
          here k e =
              let small : b < length after = (let l = within_size row b (within b t) in omega (arith, g.long)) in
              let below : ltb b (b + 1) ≡ true = grind (arith, nat_tests) in
              let passes : test b ≡ true = t in
              rw (e, passes, below) (get_or-set_same after b (Some atom) None small)

      -- with no member left
      pub all_counted : (from size : ℕ) (after : List (Option ℕ)) → IsGathered test before atom from size after → from ≤ length before → HasNoneFrom row from → size ≡ sum_where test (λ _. 1) (length before)
      all_counted from size after g l none = g.counted ∙ sym (sum_gap from (length before) l (λ k h _. elim (either (test k)) [ inr o ↦ o | inl t ↦ absurd (not_both (within k t) (none k h)) ]))
