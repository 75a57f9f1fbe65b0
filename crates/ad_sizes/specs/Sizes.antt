-- The sizes of the rows of slots.
use Rattle.std.specs.Prelude.{ℕ, ◌≤◌, ◌↔◌, Bool, List, Option, Some, None, map, IsTrue}
use Rattle.ad_base.specs.declared.limits.Kind.{Kind}
use Rattle.ad_bits.specs.Rows.{has, member_count}
use Rattle.ad_tables.specs.Rows.{Tables, of_kind}

-- how many members the row has, 0 where there is none
abbrev pub size_of : Option (List Bool) → ℕ
size_of None = 0
size_of (Some row) = member_count row

-- the size of each slot's row
abbrev pub sizes_of : Tables → Kind → List ℕ
sizes_of tables kind = map size_of (of_kind tables kind)

-- What is left are the members whose size no other member's exceeds; and where there is a member, one is left.
pub record AreLargest (size : ℕ → ℕ) (members left : List Bool) : Type 0 where
  pub largest : (i : ℕ) → IsTrue (has left i) ↔ (IsTrue (has members i) × ((k : ℕ) → IsTrue (has members k) → size k ≤ size i))
  pub some : (i : ℕ) → IsTrue (has members i) → (k : ℕ) × IsTrue (has left k)
