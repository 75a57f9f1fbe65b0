-- Touched symbols that were looked at, one by one.
use Rattle.std.proofs.Common.{◌≡◌, ◌≢◌, ℕ, ◌+◌, ◌<◌, Bool, List, [], get_or, IsTrue, inl, inr, sym, ◌∙◌, subst, arith}
use Rattle.std.proofs.lemmas.Bool.{cases_eq}
use Rattle.ad_bits.specs.Rows.{has}
use Rattle.ad_repair.specs.declared.touched.Touched.{Touched}
use Rattle.ad_repair.specs.Touches.{IsHeld, IsSeen}
use Rattle.ad_repair.proofs.ListLemmas.{below_or_last}

module _ (touched : Touched) (slot : ℕ) (row : List Bool) (n : ℕ) where
  abbrev holder : ℕ → List Bool
  holder t = get_or touched.holders.items t []

  abbrev symbol : ℕ → ℕ
  symbol t = get_or touched.symbols.items t 0

  -- one that isn't held
  pub seen_skip : (seen : List Bool) → IsSeen touched slot row seen n → (IsHeld (holder n) slot row → ⊥) → IsSeen touched slot row seen (n + 1)
  seen_skip seen before none = record {
    held = λ t l h. elim (below_or_last t n l) [
      | inl s ↦ before.held t s h
      | inr e ↦ absurd (none (subst (λ k. IsHeld (holder k) slot row) e h))
    ];
    only = λ s v. let o = before.only s v in (o.0, omega (arith, o.1), o.2, o.3);
  }

  -- one that is
  pub seen_more : (before after : List Bool) → IsSeen touched slot row before n → IsHeld (holder n) slot row → IsTrue (has after (symbol n))
      → ((k : ℕ) → k ≢ symbol n → has after k ≡ has before k) → IsSeen touched slot row after (n + 1)
  seen_more before after seen here new others = record {
    held = λ t l h. elim (cases_eq (symbol t) (symbol n)) [
      | inl e ↦ subst (λ z. IsTrue (has after z)) (sym e) new
      | inr d ↦ elim (below_or_last t n l) [
        | inl s ↦ others (symbol t) d ∙ seen.held t s h
        | inr e ↦ subst (λ k. IsTrue (has after (symbol k))) (sym e) new
      ]
    ];
    only = λ s v. elim (cases_eq s (symbol n)) [
      | inl e ↦ (n, omega arith, sym e, here)
      | inr d ↦ (let o = seen.only s (sym (others s d) ∙ v) in (o.0, omega (arith, o.1), o.2, o.3))
    ];
  }

-- what is held is near
pub held_near : (touched : Touched) (n : ℕ) → (near : (t i : ℕ) → t < n → IsTrue (has (get_or touched.holders.items t []) i) → IsTrue (has touched.near i))
    → (t slot : ℕ) (row : List Bool) → t < n → IsHeld (get_or touched.holders.items t []) slot row → IsHeld touched.near slot row
held_near touched n near t slot row l (inl h) = inl (near t slot l h)
held_near touched n near t slot row l (inr m) = inr (m.0, m.1, near t m.0 l m.2)
