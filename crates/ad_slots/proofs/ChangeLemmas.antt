-- A slot that changes, and the lists of slots.
use Rattle.std.proofs.Common.{◌≡◌, ◌≢◌, ◌<◌, ◌≤◌, ◌==◌, ◌||◌, ◌&&◌, not, ℕ, Bool, true, false, List, [], ◌∷◌, Option, None, Some, IsTrue, IsFalse, refl, sym, ap, ◌∙◌, subst, inl, inr, arith, eqb-true, eq-eqb}
use Rattle.std.specs.Ordering.{nat_cmp}
use Rattle.std.specs.List.Sorted.{IsStrictlySortedBy}
use Rattle.ad_theory.specs.Numbers.{among}
use Rattle.ad_theory.proofs.Members.{either, not_both, or_left}
use Rattle.ad_slots.specs.Held.{Held, IsCovered}
use Rattle.ad_slots.specs.Rising.{IsWith, IsWithout}
use Rattle.ad_slots.specs.Places.{slot_at, symbols_at, slots_where, has_symbol, held_slots, AreCovered, AreHeldBelow, IsReplaced}
use Rattle.ad_slots.proofs.RisingLemmas.{same_rising}
use Rattle.ad_slots.proofs.PlaceLemmas.{listed, rising_where}

same_number : (i m : ℕ) → IsTrue (i == m) → m ≡ i
same_number i m t = sym (eqb-true i m t)

another : (i m : ℕ) → IsFalse (i == m) → m ≢ i
another i m f = λ e. not_both (eq-eqb i m (sym e)) f

pub nothing_rises : IsStrictlySortedBy nat_cmp []
unfolding IsStrictlySortedBy
nothing_rises = tt

module _ (test : Option Held → Bool) (free : test None ≡ false) (i : ℕ) (x : Option Held) (old new : List (Option Held)) (r : IsReplaced i x old new) where
  here : (m : ℕ) → IsTrue (i == m) → among (slots_where test new) m ≡ test x
  here m t = listed test free new m ∙ ap (λ k. test (slot_at new k)) (same_number i m t) ∙ ap test r.here

  elsewhere : (m : ℕ) → IsFalse (i == m) → among (slots_where test old) m ≡ among (slots_where test new) m
  elsewhere m f = listed test free old m ∙ ap test (sym (r.others m (another i m f))) ∙ sym (listed test free new m)

  -- the slot comes to the list
  pub put_where : (list : List ℕ) → IsTrue (test x) → IsWith i (slots_where test old) list → list ≡ slots_where test new
  put_where list passes w = same_rising list (slots_where test new) w.rising (rising_where test new) (λ m. w.members m ∙ elim (either (i == m)) [
    | inl t ↦ or_left (i == m) (among (slots_where test old) m) t ∙ sym (here m t ∙ passes)
    | inr f ↦ ap (λ b. b || among (slots_where test old) m) f ∙ elsewhere m f
  ])

  -- the slot leaves the list, if it stood there
  pub taken_where : (list : List ℕ) → IsFalse (test x) → IsWithout i (slots_where test old) list → list ≡ slots_where test new
  taken_where list fails w = same_rising list (slots_where test new) w.rising (rising_where test new) (λ m. w.members m ∙ elim (either (i == m)) [
    | inl t ↦ ap (λ b. not b && among (slots_where test old) m) t ∙ sym (here m t ∙ fails)
    | inr f ↦ ap (λ b. not b && among (slots_where test old) m) f ∙ elsewhere m f
  ])

  -- the slot stands in neither list
  pub kept_where : IsFalse (test x) → IsFalse (test (slot_at old i)) → slots_where test old ≡ slots_where test new
  kept_where fails failed = same_rising (slots_where test old) (slots_where test new) (rising_where test old) (rising_where test new) (λ m. elim (either (i == m)) [
    | inl t ↦ listed test free old m ∙ ap (λ k. test (slot_at old k)) (same_number i m t) ∙ failed ∙ sym (here m t ∙ fails)
    | inr f ↦ elsewhere m f
  ])

module _ (i : ℕ) (x : Option Held) (old new : List (Option Held)) (r : IsReplaced i x old new) where
  below_at : (bound j s : ℕ) → AreHeldBelow bound old → ((t : ℕ) → IsTrue (among (symbols_at x) t) → t < bound) → IsTrue (among (symbols_at (slot_at new j)) s) → s < bound
  below_at bound j s olds news stands = elim (either (i == j)) [
    | inl t ↦ news s (subst (λ o. IsTrue (among (symbols_at o) s)) (ap (slot_at new) (same_number i j t) ∙ r.here) stands)
    | inr f ↦ olds j s (subst (λ o. IsTrue (among (symbols_at o) s)) (r.others j (another i j f)) stands)
  ]

  pub still_below : (bound : ℕ) → AreHeldBelow bound old → ((t : ℕ) → IsTrue (among (symbols_at x) t) → t < bound) → AreHeldBelow bound new
  still_below bound olds news = λ j s stands. below_at bound j s olds news stands

  pub still_covered : AreCovered old → ((h : Held) → x ≡ Some h → IsCovered h.code h.symbols) → AreCovered new
  still_covered olds news = λ j h is. elim (either (i == j)) [
    | inl t ↦ news h (sym (ap (slot_at new) (same_number i j t) ∙ r.here) ∙ is)
    | inr f ↦ olds j h (sym (r.others j (another i j f)) ∙ is)
  ]

-- a symbol at or above all that are held has no slots
pub no_slots : (slots : List (Option Held)) (bound s : ℕ) → AreHeldBelow bound slots → bound ≤ s → held_slots slots s ≡ []
no_slots slots bound s below above = same_rising (held_slots slots s) [] (rising_where (has_symbol s) slots) nothing_rises (λ m. listed (has_symbol s) refl slots m ∙ elim (either (among (symbols_at (slot_at slots m)) s)) [
  | inl t ↦ absurd (let l : s < bound = below m s t in omega arith)
  | inr f ↦ f
])
