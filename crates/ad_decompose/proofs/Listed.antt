-- Lists of the live slots.
use Rattle.std.proofs.Common.{◌≡◌, ◌↔◌, ◌++◌, ◌+◌, ℕ, ◌<◌, ◌≤◌, List, [], ◌∷◌, Bool, true, false, Contains, length, nat_eq, IsTrue, IsFalse, inl, inr, sym, subst, ap, ◌∙◌, arith}
use Rattle.std.specs.Cmp.{nat_eq_equiv}
use Rattle.std.specs.List.{IsDistinct, list_any}
use Rattle.std.proofs.lemmas.Bool.{cases_lt}
use Rattle.std.proofs.lemmas.Bool.Decides.{nat_tests}
use Rattle.std.proofs.lemmas.List.Elements.{Contains-append_left, Contains-push, Contains-push_cases}
use Rattle.std.proofs.lemmas.Map.Keys.{IsDistinct-push}
use Rattle.std.proofs.lemmas.Map.Steps.{length-le_from_distinct_below}
use Rattle.std.proofs.lemmas.Map.Views.{Contains-from_any}
use Rattle.ad_theory.proofs.Members.{either}

same_number : (x y : ℕ) → nat_eq x y ≡ true → x ≡ y
same_number x y e = grind (arith, nat_tests)

-- distinct slots are no more than there are slots
pub few_listed : (order : List ℕ) (n : ℕ) → IsDistinct nat_eq order → ((i : ℕ) → Contains order i → i < n) → length order ≤ n
few_listed order n distinct below = length-le_from_distinct_below order n distinct (λ q t. below q (Contains-from_any same_number q order t))

-- the live slots below n are listed, each once
pub record AreListed (live : ℕ → Bool) (n : ℕ) (order : List ℕ) : Type 0 where
  pub listed : (i : ℕ) → Contains order i ↔ ((i < n) × IsTrue (live i))
  pub distinct : IsDistinct nat_eq order

module _ (live : ℕ → Bool) where
  pub none_listed : AreListed live 0 []
  unfolding IsDistinct
  none_listed = record {
    listed = λ i. (λ h. absurd (omega (arith, h.1)), λ h. absurd (omega (arith, h.0)));
    distinct = tt;
  }

  module _ (n : ℕ) (order : List ℕ) (are : AreListed live n order) where
    -- the next slot isn't live
    pub one_passed : IsFalse (live n) → AreListed live (n + 1) order
    one_passed f = record {
      listed = λ i. (
        (λ h. let r = (are.listed i).0 h in (omega (arith, r.0), r.1)),
        (λ h. (are.listed i).1 (
          (elim (cases_lt i n) [
            | inl l ↦ l
            | inr g ↦ (let same : i ≡ n = omega (arith, g, h.0) in let clash : true ≡ false = sym h.1 ∙ ap live same ∙ f in cc)
          ]),
          h.1,
        )),
      );
      distinct = are.distinct;
    }

    -- the next slot is live
    pub one_listed : IsTrue (live n) → AreListed live (n + 1) (order ++ n ∷ [])
    one_listed t = record {
      listed = λ i. (
        (λ h. elim (Contains-push_cases order n i h) [
          | inl o ↦ (let r = (are.listed i).0 o in (omega (arith, r.0), r.1))
          | inr e ↦ (omega (arith, e), subst (λ k. IsTrue (live k)) e t)
        ]),
        (λ h. elim (cases_lt i n) [
          | inl l ↦ Contains-append_left order (n ∷ []) i ((are.listed i).1 (l, h.1))
          | inr g ↦ (let same : n ≡ i = omega (arith, g, h.0) in subst (λ k. Contains (order ++ n ∷ []) k) same (Contains-push order n))
        ]),
      );
      distinct = IsDistinct-push nat_eq_equiv order n are.distinct (elim (either (list_any (nat_eq n) order)) [
        | inl a ↦ absurd (omega (arith, ((are.listed n).0 (Contains-from_any same_number n order a)).0))
        | inr f ↦ f
      ]);
    }
