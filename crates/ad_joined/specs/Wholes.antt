-- Modules that were found before, for signatures of axioms.
use Rattle.std.specs.Prelude.{◌≡◌, ◌<◌, ℕ, Bool, List, Option, Some, None, ◌⊎◌, IsTrue, IsFalse, slice_index_or}
use Rattle.ad_bits.specs.Rows.{member_count}
use Rattle.ad_theory.specs.Module.{Logic}
use Rattle.ad_joined.specs.Searched.{IsSearchedRow}
use Rattle.ad_joined.specs.declared.whole.Whole.{Whole}

-- each that the table has, by slots, is the module for the slot's own signature
abbrev pub AreWholes : Logic ℕ ℕ → (ℕ → Bool) → ℕ → ℕ → List (Option Whole) → Type 0
AreWholes L live slots symbols table = (slot : ℕ) (whole : Whole) → slice_index_or table slot None ≡ Some whole
    → IsSearchedRow L live slots symbols slot whole.row whole.closure

-- it is the module for the signature of an axiom that is needed: one that isn't taken, and isn't local for what was reached
pub record IsJoinable (L : Logic ℕ ℕ) (live : ℕ → Bool) (slots symbols : ℕ) (out reached : ℕ → Bool) (whole : Whole) : Type 0 where
  pub slot : ℕ
  pub is_live : IsTrue (live slot)
  pub new : IsFalse (out slot)
  pub needed : IsFalse (L.local reached slot)
  pub searched : IsSearchedRow L live slots symbols slot whole.row whole.closure

-- an axiom was taken, or nothing changed
abbrev pub HasMoved : List Bool → List ℕ → List Bool → List ℕ → Type 0
HasMoved before waited after waits = (member_count before < member_count after) ⊎ ((after ≡ before) × (waits ≡ waited))
