-- Sums over the symbols that are settled, and the steps of a search.
use Rattle.std.proofs.Common.{◌≡◌, ◌≢◌, ℕ, zero, suc, ◌+◌, ◌<◌, ◌≤◌, Bool, true, List, length, set, ◌⊎◌, IsTrue, IsFalse, inl, inr, refl, sym, subst, ◌∙◌, le_of_suc-le-suc, not-suc-le-zero, eq-or-lt_of_le, arith}
use Rattle.ad_bits.specs.Rows.{has}
use Rattle.ad_theory.specs.Module.{IsAntitone}
use Rattle.ad_theory.specs.Numbers.{sum_where, among, logic_of}
use Rattle.ad_theory.specs.Sweep.{HasAlso, IsGathered}
use Rattle.ad_theory.proofs.SweepLemmas.{gathered_takes}
use Rattle.ad_theory.proofs.Members.{either, not_both}
use Rattle.ad_extract.proofs.WaitingLemmas.{set_members}

sum_same : (test test' : ℕ → Bool) (f : ℕ → ℕ) (n : ℕ) → ((e : ℕ) → e < n → test' e ≡ test e) → sum_where test' f n ≡ sum_where test f n
sum_same test test' f zero same = refl
sum_same test test' f (suc n) same =
    let here : test' n ≡ test n = same n (omega arith) in
    let rest : sum_where test' f n ≡ sum_where test f n = sum_same test test' f n (λ e l. same e (omega arith)) in
    rw (here, rest) refl

-- one more number that passes
pub sum_more : (test test' : ℕ → Bool) (f : ℕ → ℕ) (n s : ℕ) → s < n → IsFalse (test s) → IsTrue (test' s) → ((e : ℕ) → e ≢ s → test' e ≡ test e) → sum_where test' f n ≡ sum_where test f n + f s
sum_more test test' f zero s l out in_ same = absurd (not-suc-le-zero l)
sum_more test test' f (suc n) s l out in_ same = elim (eq-or-lt_of_le (le_of_suc-le-suc l)) [
  | inl e ↦ subst (λ z. sum_where test' f (suc z) ≡ sum_where test f (suc z) + f s) e
      (let rest : sum_where test' f s ≡ sum_where test f s = sum_same test test' f s (λ k q. same k (λ h. absurd (omega arith))) in
      rw (in_, out) (omega (arith, rest)))
  | inr q ↦
      (let here : test' n ≡ test n = same n (λ h. absurd (omega arith)) in
      let rest : sum_where test' f n ≡ sum_where test f n + f s = sum_more test test' f n s q out in_ same in
      rw here (omega (arith, rest)))
]

-- a weaker test
pub sum_le : (test test' : ℕ → Bool) (f : ℕ → ℕ) (n : ℕ) → ((e : ℕ) → IsTrue (test e) → IsTrue (test' e)) → sum_where test f n ≤ sum_where test' f n
sum_le test test' f zero more = omega arith
sum_le test test' f (suc n) more =
    let rest : sum_where test f n ≤ sum_where test' f n = sum_le test test' f n more in
    elim (either (test n)) [
      | inl t ↦ (let t' : test' n ≡ true = more n t in rw (t, t') (omega (arith, rest)))
      | inr e ↦ rw e (omega (arith, rest))
    ]

pub sum_ones : (test : ℕ → Bool) (n : ℕ) → sum_where test (λ _. 1) n ≤ n
sum_ones test zero = omega arith
sum_ones test (suc n) =
    let rest : sum_where test (λ _. 1) n ≤ n = sum_ones test n in
    elim (either (test n)) [ inl t ↦ rw t (omega (arith, rest)) | inr e ↦ rw e (omega (arith, rest)) ]

-- an axiom is taken that is not local for some of the names reached so far
pub takes : (symbols : ℕ → List ℕ) (local : (ℕ → Bool) → ℕ → Bool) → IsAntitone (logic_of symbols local) → {seed : ℕ → Bool} {O : ℕ → Type 0} (out out' : List Bool) {reached reached' : ℕ → Bool}
    → (slot : ℕ) → slot < length out → O slot → (names : ℕ → Bool) → ((e : ℕ) → IsTrue (names e) → IsTrue (reached e)) → IsFalse (local names slot)
    → out' ≡ set out slot true → HasAlso reached (among (symbols slot)) reached'
    → IsGathered (logic_of symbols local) seed O (λ i. IsTrue (has out i)) reached → IsGathered (logic_of symbols local) seed O (λ i. IsTrue (has out' i)) reached'
takes symbols local antitone {seed} {O} out out' slot below o names few new taken also g =
    gathered_takes (logic_of symbols local) seed antitone g slot o names few new (λ b. rw taken (set_members out slot below b)) also

-- what was local for the settled symbols is local for one more, or that one stands in it
pub stays_local : (symbols : ℕ → List ℕ) (local : (ℕ → Bool) → ℕ → Bool) → IsAntitone (logic_of symbols local) → (before after : ℕ → Bool) (s i : ℕ)
    → ((e : ℕ) → e ≢ s → after e ≡ before e) → IsTrue (local before i) → IsTrue (among (symbols i) s) ⊎ IsTrue (local after i)
stays_local symbols local antitone before after s i other h = elim (either (among (symbols i) s)) [
  | inl t ↦ inl t
  | inr f ↦ inr (antitone.shrinks after before i (λ e sig t. sym (other e (λ q. not_both sig (subst (λ z. IsFalse (among (symbols i) z)) (sym q) f))) ∙ t) h)
]

-- what is local for the symbols that are reached is so for those that are settled
pub settled_local : (symbols : ℕ → List ℕ) (local : (ℕ → Bool) → ℕ → Bool) → IsAntitone (logic_of symbols local) → (less more : ℕ → Bool) (i : ℕ)
    → ((e : ℕ) → IsTrue (less e) → IsTrue (more e)) → IsTrue (local more i) → IsTrue (local less i)
settled_local symbols local antitone less more i part h = antitone.shrinks less more i (λ e sig t. part e t) h
