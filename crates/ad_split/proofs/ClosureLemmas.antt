-- The symbols of slots, slot by slot.
use Rattle.std.proofs.Common.{◌≡◌, ℕ, ◌+◌, ◌<◌, Bool, List, IsTrue, IsFalse, ◌⊎◌, inl, inr, subst, arith}
use Rattle.std.proofs.lemmas.Bool.{cases_eq, cases_lt}
use Rattle.ad_bits.specs.Rows.{has, HasNoneFrom, IsLeastFrom}
use Rattle.ad_theory.specs.Numbers.{among}
use Rattle.ad_theory.specs.Sweep.{HasAlso}
use Rattle.ad_theory.proofs.Members.{not_both}
use Rattle.ad_split.specs.Closure.{IsClosureBelow, IsClosureOf}

module _ (symbols : ℕ → List ℕ) (row : List Bool) where
  pub no_slots : (closure : ℕ → Bool) → ((s : ℕ) → IsFalse (closure s)) → IsClosureBelow symbols (has row) 0 closure
  no_slots closure none s = (λ t. absurd (not_both t (none s)), λ h. absurd (omega (arith, h.2)))

  -- a slot below the next one is below that, or is it
  before : (from next i : ℕ) → IsLeastFrom row from next → IsTrue (has row i) → i < next + 1 → (i < from) ⊎ (i ≡ next)
  before from next i least t below = elim (cases_lt i from) [
    | inl l ↦ inl l
    | inr n ↦ elim (cases_eq i next) [
      | inl e ↦ inr e
      | inr ne ↦ absurd (not_both t (least.none_between i (omega arith) (omega arith)))
    ]
  ]

  pub one_slot : (from next : ℕ) (closure after : ℕ → Bool) → IsLeastFrom row from next → IsClosureBelow symbols (has row) from closure → HasAlso closure (among (symbols next)) after
      → IsClosureBelow symbols (has row) (next + 1) after
  one_slot from next closure after least so_far also s = (
    λ t. elim ((also s).0 t) [
      | inl b ↦ (let r = (so_far s).0 b in (r.0, r.1, omega (arith, r.2, least.at_or_above), r.3))
      | inr n ↦ (next, least.member, omega arith, n)
    ],
    λ h. elim (before from next h.0 least h.1 h.2) [
      | inl l ↦ (also s).1 (inl ((so_far s).1 (h.0, h.1, l, h.3)))
      | inr e ↦ (also s).1 (inr (subst (λ i. IsTrue (among (symbols i) s)) e h.3))
    ],
  )

  pub all_slots : (from : ℕ) (closure : ℕ → Bool) → HasNoneFrom row from → IsClosureBelow symbols (has row) from closure → IsClosureOf symbols (has row) closure
  all_slots from closure none so_far s = (
    λ t. let r = (so_far s).0 t in (r.0, r.1, r.3),
    λ h. (so_far s).1 (h.0, h.1, elim (cases_lt h.0 from) [ inl l ↦ l | inr n ↦ absurd (not_both h.1 (none h.0 n)) ], h.2),
  )
