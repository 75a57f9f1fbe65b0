-- Slots with their lists, where an axiom comes or leaves.
use Rattle.std.proofs.Common.{◌≡◌, ◌<◌, ℕ, Bool, false, List, Option, None, Some, IsTrue, IsFalse, refl, sym, ap, ◌∙◌, subst, inl, inr}
use Rattle.std.specs.Prelude.{is_some}
use Rattle.std.specs.Ordering.{nat_cmp}
use Rattle.std.specs.List.Sorted.{IsStrictlySortedBy}
use Rattle.smallvec.specs.SmallVec.{SmallVec}
use Rattle.ad_base.specs.declared.limits.Side.{Side}
use Rattle.ad_theory.specs.Numbers.{among}
use Rattle.ad_theory.proofs.Members.{either, not_both}
use Rattle.ad_slots.specs.Held.{Held, IsCovered}
use Rattle.ad_slots.specs.Rising.{IsWith, IsWithout}
use Rattle.ad_slots.specs.Places.{slot_at, is_held, held_symbols, has_symbol, held_slots, is_global, held_globals, AreCovered, AreHeldBelow, IsReplaced}
use Rattle.ad_slots.proofs.PlaceLemmas.{rising_where}
use Rattle.ad_slots.proofs.ChangeLemmas.{put_where, taken_where, kept_where, still_below, still_covered}
use Rattle.ad_flat.specs.Changes.{list_of, AreChanged}

pub rising_list : (lists : List (SmallVec ℕ)) (slots : List (Option Held)) → ((s : ℕ) → list_of lists s ≡ held_slots slots s) → (s : ℕ) → IsStrictlySortedBy nat_cmp (list_of lists s)
rising_list lists slots indexed s = subst (λ xs. IsStrictlySortedBy nat_cmp xs) (sym (indexed s)) (rising_where (has_symbol s) slots)

pub rising_globals : (list : List ℕ) (slots : List (Option Held)) (side : Side) → list ≡ held_globals slots side → IsStrictlySortedBy nat_cmp list
rising_globals list slots side is = subst (λ xs. IsStrictlySortedBy nat_cmp xs) (sym is) (rising_where (is_global side) slots)

fails_free : (test : Option Held → Bool) → test None ≡ false → (slot : Option Held) → IsFalse (is_some slot) → test slot ≡ false
fails_free test free None vacant = free
fails_free test free (Some h) vacant = absurd (not_both refl vacant)

some_is : (x y : Held) → Some x ≡ Some y → x ≡ y
some_is x y e = cc

none_is_none : (h : Held) → None ≡ Some h → ⊥
none_is_none h e = cc

-- an axiom comes to a free slot
module _ (i : ℕ) (h : Held) (old new : List (Option Held)) (r : IsReplaced i (Some h) old new) (vacant : IsFalse (is_held old i)) where
  pub put_indexed : (symbols : List ℕ) (lists after : List (SmallVec ℕ)) → symbols ≡ h.symbols → ((s : ℕ) → list_of lists s ≡ held_slots old s) → AreChanged (IsWith i) symbols lists after
      → (s : ℕ) → list_of after s ≡ held_slots new s
  put_indexed symbols lists after same indexed changed s = elim (either (among symbols s)) [
    | inl t ↦ put_where (has_symbol s) refl i (Some h) old new r (list_of after s) (sym (ap (λ xs. among xs s) same) ∙ t)
        (subst (λ xs. IsWith i xs (list_of after s)) (indexed s) (changed.touched s t))
    | inr f ↦ changed.others s f ∙ indexed s ∙ kept_where (has_symbol s) refl i (Some h) old new r (sym (ap (λ xs. among xs s) same) ∙ f) (fails_free (has_symbol s) refl (slot_at old i) vacant)
  ]

  pub put_globals : (side : Side) (is : Bool) (list after : List ℕ) → is ≡ is_global side (Some h) → list ≡ held_globals old side → (IsTrue is → IsWith i list after) → (IsFalse is → after ≡ list) → after ≡ held_globals new side
  put_globals side is list after says same present absent = elim (either is) [
    | inl t ↦ put_where (is_global side) refl i (Some h) old new r after (sym says ∙ t) (subst (λ xs. IsWith i xs after) same (present t))
    | inr f ↦ absent f ∙ same ∙ kept_where (is_global side) refl i (Some h) old new r (sym says ∙ f) (fails_free (is_global side) refl (slot_at old i) vacant)
  ]

  pub put_below : (symbols : List ℕ) (bound after : ℕ) → after ≡ bound → AreHeldBelow bound old → ((s : ℕ) → IsTrue (among h.symbols s) → s < bound) → AreHeldBelow after new
  put_below symbols bound after same olds news = subst (λ n. AreHeldBelow n new) (sym same) (still_below i (Some h) old new r bound olds news)

  pub put_covered : AreCovered old → IsCovered h.code h.symbols → AreCovered new
  put_covered olds covers = still_covered i (Some h) old new r olds (λ k e. subst (λ j. IsCovered j.code j.symbols) (some_is h k e) covers)

-- a slot is freed
module _ (i : ℕ) (old new : List (Option Held)) (r : IsReplaced i None old new) where
  pub freed_indexed : (symbols : List ℕ) (lists after : List (SmallVec ℕ)) → symbols ≡ held_symbols old i → ((s : ℕ) → list_of lists s ≡ held_slots old s) → AreChanged (IsWithout i) symbols lists after
      → (s : ℕ) → list_of after s ≡ held_slots new s
  freed_indexed symbols lists after same indexed changed s = elim (either (among symbols s)) [
    | inl t ↦ taken_where (has_symbol s) refl i None old new r (list_of after s) refl
        (subst (λ xs. IsWithout i xs (list_of after s)) (indexed s) (changed.touched s t))
    | inr f ↦ changed.others s f ∙ indexed s ∙ kept_where (has_symbol s) refl i None old new r refl (sym (ap (λ xs. among xs s) same) ∙ f)
  ]

  pub freed_globals : (side : Side) (list after : List ℕ) → list ≡ held_globals old side → IsWithout i list after → after ≡ held_globals new side
  freed_globals side list after same gone = taken_where (is_global side) refl i None old new r after refl (subst (λ xs. IsWithout i xs after) same gone)

  pub freed_below : (bound after : ℕ) → after ≡ bound → AreHeldBelow bound old → AreHeldBelow after new
  freed_below bound after same olds = subst (λ n. AreHeldBelow n new) (sym same) (still_below i None old new r bound olds (λ t stands. absurd (not_both stands refl)))

  pub freed_covered : AreCovered old → AreCovered new
  freed_covered olds = still_covered i None old new r olds (λ k e. absurd (none_is_none k e))
