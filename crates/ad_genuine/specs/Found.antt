-- The rows that were found for some slots.
use Rattle.std.specs.Prelude.{◌≡◌, ℕ, ◌*◌, Bool, List, length, map}
use Rattle.std.specs.Arc.{arc_value}
use Rattle.std.specs.List.{AllZip}
use Rattle.ad_base.specs.declared.limits.Kind.{Kind}
use Rattle.ad_base.specs.declared.limits.Kind.TheVariants.{Bottom, Top, Star}
use Rattle.ad_base.specs.declared.limits.Side.{Side}
use Rattle.ad_groups.specs.GenuineRows.{IsGenuineRow}
use Rattle.ad_genuine.specs.declared.found.Found.{Found}

-- the rows of a kind, in order
abbrev pub rows_of_kind : Found → Kind → List (List Bool)
rows_of_kind found Bottom = map (λ row. arc_value row) found.bottom.items
rows_of_kind found Top = map (λ row. arc_value row) found.top.items
rows_of_kind found Star = map (λ row. arc_value row) found.star.items

-- how many extractions were made for them
abbrev pub runs_of : Found → ℕ
runs_of found = found.tally.runs

-- the genuine modules of these slots, of each kind, in order; one extraction was made for each
pub record AreFound (symbols : ℕ → List ℕ) (local : Side → (ℕ → Bool) → ℕ → Bool) (live : ℕ → Bool) (slots : ℕ) (of : List ℕ) (found : Found) : Type 0 where
  pub rows : (kind : Kind) → AllZip (IsGenuineRow symbols local live slots kind) of (rows_of_kind found kind)
  pub runs : runs_of found ≡ 3 * length of
