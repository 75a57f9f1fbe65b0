-- Rows of free slots.
use Rattle.std.specs.Prelude.{◌≡◌, ◌<◌, ℕ, Bool, not, List, Option, length}
use Rattle.ad_bits.specs.Rows.{has}
use Rattle.ad_slots.specs.Held.{Held}
use Rattle.ad_slots.specs.Places.{is_held}

-- the members of the row are the free ones of so many slots
pub record AreFree (most : ℕ) (slots : List (Option Held)) (row : List Bool) : Type 0 where
  pub size : length row ≡ most
  pub members : (i : ℕ) → i < most → has row i ≡ not (is_held slots i)
