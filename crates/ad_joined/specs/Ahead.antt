-- What was found so far for some slots.
use Rattle.std.specs.Prelude.{◌≡◌, ℕ, Bool, List, None, Some, length, slice_index_or}
use Rattle.ad_tables.specs.Rows.{rows_in}
use Rattle.ad_theory.specs.Module.{Logic}
use Rattle.ad_joined.specs.Searched.{IsSideRow}
use Rattle.ad_joined.specs.Wholes.{AreWholes}
use Rattle.ad_joined.specs.declared.ahead.Ahead.{Ahead}

-- each row is that of the slot at its place, and each module to be joined that of its slot
pub record IsAhead (L : Logic ℕ ℕ) (live : ℕ → Bool) (slots symbols : ℕ) (of : List ℕ) (ahead : Ahead) : Type 0 where
  pub out : length ahead.search.out ≡ slots
  pub reached : length ahead.search.reached ≡ symbols
  pub long : length ahead.wholes.items ≡ slots
  pub wholes : AreWholes L live slots symbols ahead.wholes.items
  pub rows_long : length ahead.rows.items ≡ length of
  pub rows : (at : ℕ) (row : List Bool) → slice_index_or (rows_in ahead.rows.items) at None ≡ Some row → IsSideRow L live slots (slice_index_or of at 0) row
