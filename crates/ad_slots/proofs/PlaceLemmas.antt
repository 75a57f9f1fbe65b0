-- Slots that are held, and the lists of slots.
use Rattle.std.proofs.Common.{◌≡◌, ◌≢◌, ◌<◌, ◌≤◌, ◌+◌, ◌==◌, ◌||◌, ◌⊎◌, ◌↔◌, not, cond, ℕ, zero, suc, Bool, true, false, List, [], ◌∷◌, Option, None, Some, length, get_or, IsTrue, IsFalse, refl, sym, ap, ◌∙◌, subst, inl, inr, arith, eqb-true, eq-eqb, Less, ltb-true, ltb-false, nat_lt}
use Rattle.std.specs.Prelude.{is_some}
use Rattle.std.specs.Ordering.{nat_cmp}
use Rattle.std.specs.Cmp.{nat_cmp_is}
use Rattle.std.specs.List.{AllByRecursion, filter, range_with_len}
use Rattle.std.specs.List.Sorted.{IsStrictlySortedBy}
use Rattle.std.proofs.lemmas.List.{get_or_past}
use Rattle.std.proofs.lemmas.List.Kept.{IsStrictlySortedBy-filter}
use Rattle.ad_base.specs.declared.limits.Side.{Side}
use Rattle.ad_theory.specs.Module.{IsAntitone}
use Rattle.ad_theory.specs.Numbers.{among, logic_of}
use Rattle.ad_theory.proofs.Members.{either, not_both, not_true, false_not, or_left}
use Rattle.ad_cells.specs.Codes.{CodesShrink, symbols_of}
use Rattle.ad_slots.specs.Held.{Held, is_local_held}
use Rattle.ad_slots.specs.Places.{slot_at, is_held, symbols_at, held_symbols, is_local_at, is_held_local, slots_where, has_symbol, held_slots, is_global, held_globals, least_free, AreCovered}
use Rattle.ad_slots.proofs.RisingLemmas.{IsBelowAll}

-- ranges of numbers

range_above : (x a n : ℕ) → x < a → IsBelowAll x (range_with_len a n)
range_above x a zero l = tt
range_above x a (suc n) l = (sym (nat_cmp_is x a Less l), range_above x (a + 1) n (omega arith))

range_rises : (a n : ℕ) → IsStrictlySortedBy nat_cmp (range_with_len a n)
unfolding IsStrictlySortedBy
range_rises a zero = tt
range_rises a (suc n) = (range_above a (a + 1) n (omega arith), range_rises (a + 1) n)

other_number : (a b : ℕ) → a ≢ b → (a == b) ≡ false
other_number a b n = elim (either (a == b)) [ inl t ↦ absurd (n (eqb-true a b t)) | inr f ↦ f ]

step_over : (b : Bool) (a j : ℕ) (rest : List ℕ) → a ≢ j → among (cond b (a ∷ rest) rest) j ≡ among rest j
step_over true a j rest other = ap (λ c. c || among rest j) (other_number a j other)
step_over false a j rest other = refl

stands_here : (b : Bool) (a : ℕ) (rest : List ℕ) → among rest a ≡ false → among (cond b (a ∷ rest) rest) a ≡ b
stands_here true a rest none = or_left (a == a) (among rest a) (eq-eqb a a refl)
stands_here false a rest none = none

range_below : (p : ℕ → Bool) (a n j : ℕ) → j < a → among (filter p (range_with_len a n)) j ≡ false
range_below p a zero j l = refl
range_below p a (suc n) j l = step_over (p a) a j (filter p (range_with_len (a + 1) n)) (λ e. absurd (omega arith)) ∙ range_below p (a + 1) n j (omega arith)

range_past : (p : ℕ → Bool) (a n j : ℕ) → a + n ≤ j → among (filter p (range_with_len a n)) j ≡ false
range_past p a zero j l = refl
range_past p a (suc n) j l = step_over (p a) a j (filter p (range_with_len (a + 1) n)) (λ e. absurd (omega arith)) ∙ range_past p (a + 1) n j (omega arith)

range_within : (p : ℕ → Bool) (a n j : ℕ) → a ≤ j → j < a + n → among (filter p (range_with_len a n)) j ≡ p j
range_within p a zero j l m = absurd (omega arith)
range_within p a (suc n) j l m = elim (either (a == j)) [
  | inl t ↦ subst (λ k. among (cond (p a) (a ∷ filter p (range_with_len (a + 1) n)) (filter p (range_with_len (a + 1) n))) k ≡ p k) (eqb-true a j t)
      (stands_here (p a) a (filter p (range_with_len (a + 1) n)) (range_below p (a + 1) n a (omega arith)))
  | inr f ↦ (
      let other : a ≢ j = λ e. not_both (eq-eqb a j e) f in
      step_over (p a) a j (filter p (range_with_len (a + 1) n)) other ∙ range_within p (a + 1) n j (omega arith) (omega arith))
]

-- a slot is listed where it passes
pub listed : (test : Option Held → Bool) → test None ≡ false → (slots : List (Option Held)) (i : ℕ) → among (slots_where test slots) i ≡ test (slot_at slots i)
listed test free slots i = elim (either (nat_lt i (length slots))) [
  | inl t ↦ (
      let within : i < length slots = ltb-true i (length slots) t in
      range_within (λ j. test (slot_at slots j)) 0 (length slots) i (omega arith) (omega arith))
  | inr f ↦ (
      let past : length slots ≤ i = ltb-false i (length slots) f in
      range_past (λ j. test (slot_at slots j)) 0 (length slots) i (omega arith) ∙ sym free ∙ ap test (sym (get_or_past slots i None past)))
]

pub rising_where : (test : Option Held → Bool) (slots : List (Option Held)) → IsStrictlySortedBy nat_cmp (slots_where test slots)
rising_where test slots = IsStrictlySortedBy-filter nat_cmp (λ i. test (slot_at slots i)) (range_with_len 0 (length slots)) (range_rises 0 (length slots))

-- the laws of a universe

pub held_within : (slots : List (Option Held)) (i : ℕ) → IsTrue (is_held slots i) → i < length slots
held_within slots i t = elim (either (nat_lt i (length slots))) [
  | inl l ↦ ltb-true i (length slots) l
  | inr f ↦ absurd (not_both t (ap is_some (get_or_past slots i None (ltb-false i (length slots) f))))
]

symbol_cases : (s : ℕ) (slot : Option Held) → IsTrue (has_symbol s slot) ↔ (IsTrue (is_some slot) × IsTrue (among (symbols_at slot) s))
symbol_cases s None = ((λ t. absurd (not_both t refl)), (λ p. absurd (not_both p.0 refl)))
symbol_cases s (Some h) = ((λ t. (refl, t)), (λ p. p.1))

pub occurrences : (slots : List (Option Held)) (s i : ℕ) → IsTrue (among (held_slots slots s) i) ↔ (IsTrue (is_held slots i) × IsTrue (among (held_symbols slots i) s))
occurrences slots s i =
    let at = listed (has_symbol s) refl slots i in
    let cases = symbol_cases s (slot_at slots i) in
    ((λ t. cases.0 (sym at ∙ t)), (λ p. at ∙ cases.1 p))

global_cases : (side : Side) (slot : Option Held) → IsTrue (is_global side slot) ↔ (IsTrue (is_some slot) × IsFalse (is_local_at side (λ _. false) slot))
global_cases side None = ((λ t. absurd (not_both t refl)), (λ p. absurd (not_both p.0 refl)))
global_cases side (Some h) = ((λ t. (refl, not_true (is_local_held side (λ _. false) h) t)), (λ p. false_not (is_local_held side (λ _. false) h) p.1))

pub globals : (slots : List (Option Held)) (side : Side) (i : ℕ) → IsTrue (among (held_globals slots side) i) ↔ (IsTrue (is_held slots i) × IsFalse (is_held_local slots side (λ _. false) i))
globals slots side i =
    let at = listed (is_global side) refl slots i in
    let cases = global_cases side (slot_at slots i) in
    ((λ t. cases.0 (sym at ∙ t)), (λ p. at ∙ cases.1 p))

shrinks_at : CodesShrink → (side : Side) (S T : ℕ → Bool) (slot : Option Held) → ((h : Held) → slot ≡ Some h → (n : ℕ) → IsTrue (among (symbols_of h.code) n) → IsTrue (among h.symbols n))
    → ((s : ℕ) → IsTrue (among (symbols_at slot) s) → IsTrue (S s) → IsTrue (T s)) → IsTrue (is_local_at side T slot) → IsTrue (is_local_at side S slot)
shrinks_at shrink side S T None covers more l = refl
shrinks_at shrink side S T (Some h) covers more l = shrink side S T h.test h.code (λ n t. more n (covers h refl n t)) l

pub antitone : CodesShrink → (slots : List (Option Held)) (side : Side) → AreCovered slots → IsAntitone (logic_of (held_symbols slots) (is_held_local slots side))
antitone shrink slots side covers = record { shrinks = λ S T i more l. shrinks_at shrink side S T (slot_at slots i) (covers i) more l }

-- the least free slot

pub least_is_free : (slots : List (Option Held)) → IsFalse (is_held slots (least_free slots))
least_is_free [] = refl
least_is_free (None ∷ slots) = refl
least_is_free (Some h ∷ slots) = least_is_free slots

pub held_below_least : (slots : List (Option Held)) (i : ℕ) → i < least_free slots → IsTrue (is_held slots i)
held_below_least [] i l = absurd (omega arith)
held_below_least (None ∷ slots) i l = absurd (omega arith)
held_below_least (Some h ∷ slots) zero l = refl
held_below_least (Some h ∷ slots) (suc i) l = held_below_least slots i (omega arith)

pub least_within : (slots : List (Option Held)) → least_free slots ≤ length slots
least_within [] = omega arith
least_within (None ∷ slots) = omega arith
least_within (Some h ∷ slots) = let l = least_within slots in omega arith
