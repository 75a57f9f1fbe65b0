-- Rows of genuine modules.
use Rattle.std.specs.Prelude.{◌≡◌, ℕ, Bool, List, length}
use Rattle.ad_base.specs.declared.limits.Kind.{Kind}
use Rattle.ad_base.specs.declared.limits.Side.{Side}
use Rattle.ad_bits.specs.Rows.{has}
use Rattle.ad_theory.specs.Genuine.{IsGenuine}

-- the row is the genuine module of this kind of the slot's axiom, over so many slots
pub record IsGenuineRow (symbols : ℕ → List ℕ) (local : Side → (ℕ → Bool) → ℕ → Bool) (live : ℕ → Bool) (slots : ℕ) (kind : Kind) (slot : ℕ) (row : List Bool) : Type 0 where
  pub size : length row ≡ slots
  pub genuine : IsGenuine kind symbols local live slot (has row)
