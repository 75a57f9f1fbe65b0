-- Tables in which a slot got a row of each kind.
use Rattle.std.proofs.Common.{◌≡◌, ℕ, ◌<◌, Bool, List, Some, None, length}
use Rattle.std.proofs.lemmas.List.{get_or-set_same}
use Rattle.ad_base.specs.declared.limits.Kind.{Kind}
use Rattle.ad_base.specs.declared.limits.Kind.TheVariants.{Bottom, Top, Star}
use Rattle.ad_tables.specs.Rows.{Tables, of_kind, row_of, with_row}

-- the tables with the rows f of a slot
abbrev pub with_each : Tables → ℕ → (Kind → List Bool) → Tables
with_each tables slot f = with_row (with_row (with_row tables Bottom slot (f Bottom)) Top slot (f Top)) Star slot (f Star)

pub row_of-with_each : (tables : Tables) (slot : ℕ) (f : Kind → List Bool) → ((kind : Kind) → slot < length (of_kind tables kind))
    → (kind : Kind) → row_of (with_each tables slot f) kind slot ≡ Some (f kind)
row_of-with_each tables slot f below Bottom = get_or-set_same tables.bottom slot (Some (f Bottom)) None (below Bottom)
row_of-with_each tables slot f below Top = get_or-set_same tables.top slot (Some (f Top)) None (below Top)
row_of-with_each tables slot f below Star = get_or-set_same tables.star slot (Some (f Star)) None (below Star)
