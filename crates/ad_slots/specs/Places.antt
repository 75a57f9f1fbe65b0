-- Numbered slots, of which some hold axioms and the others are free. Slots past the end of the list are free.
use Rattle.std.specs.Prelude.{◌≡◌, ◌≢◌, ◌<◌, ℕ, zero, suc, Bool, true, false, not, List, [], ◌∷◌, Option, None, Some, is_some, IsTrue, IsFalse, length, slice_index_or}
use Rattle.std.specs.List.{filter, range_with_len}
use Rattle.ad_base.specs.declared.limits.Side.{Side}
use Rattle.ad_theory.specs.Numbers.{among}
use Rattle.ad_slots.specs.Held.{Held, IsCovered, is_local_held}

-- what a slot holds
abbrev pub slot_at : List (Option Held) → ℕ → Option Held
slot_at slots i = slice_index_or slots i None

-- whether a slot holds an axiom
abbrev pub is_held : List (Option Held) → ℕ → Bool
is_held slots i = is_some (slot_at slots i)

abbrev pub symbols_at : Option Held → List ℕ
symbols_at None = []
symbols_at (Some h) = h.symbols

-- the symbols of a slot; a free one has none
abbrev pub held_symbols : List (Option Held) → ℕ → List ℕ
held_symbols slots i = symbols_at (slot_at slots i)

abbrev pub is_local_at : Side → (ℕ → Bool) → Option Held → Bool
is_local_at side seen None = true
is_local_at side seen (Some h) = is_local_held side seen h

-- whether a slot is local for these numbers; a free one is
abbrev pub is_held_local : List (Option Held) → Side → (ℕ → Bool) → ℕ → Bool
is_held_local slots side seen i = is_local_at side seen (slot_at slots i)

-- the slots that pass the test, rising
abbrev pub slots_where : (Option Held → Bool) → List (Option Held) → List ℕ
slots_where test slots = filter (λ i. test (slot_at slots i)) (range_with_len 0 (length slots))

-- whether a symbol stands in the signature of what a slot holds
abbrev pub has_symbol : ℕ → Option Held → Bool
has_symbol s slot = among (symbols_at slot) s

-- the slots in whose signatures the symbol stands
abbrev pub held_slots : List (Option Held) → ℕ → List ℕ
held_slots slots s = slots_where (has_symbol s) slots

-- whether what a slot holds isn't local for nothing
abbrev pub is_global : Side → Option Held → Bool
is_global side slot = not (is_local_at side (λ _. false) slot)

-- the slots that aren't local for nothing
abbrev pub held_globals : List (Option Held) → Side → List ℕ
held_globals slots side = slots_where (is_global side) slots

-- the least free slot
abbrev pub least_free : List (Option Held) → ℕ
least_free [] = 0
least_free (None ∷ slots) = 0
least_free (Some h ∷ slots) = suc (least_free slots)

-- the codes of all that is held have no numbers but those of their signatures
abbrev pub AreCovered : List (Option Held) → Type 0
AreCovered slots = (i : ℕ) (h : Held) → slot_at slots i ≡ Some h → IsCovered h.code h.symbols

-- all symbols of what is held are below the bound
abbrev pub AreHeldBelow : ℕ → List (Option Held) → Type 0
AreHeldBelow symbols slots = (i s : ℕ) → IsTrue (among (held_symbols slots i) s) → s < symbols

-- slot i holds this, and all other slots hold what they held
pub record IsReplaced (i : ℕ) (slot : Option Held) (before after : List (Option Held)) : Type 0 where
  pub here : slot_at after i ≡ slot
  pub others : (j : ℕ) → j ≢ i → slot_at after j ≡ slot_at before j
