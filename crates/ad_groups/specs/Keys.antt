-- Keys of lists of numbers: two lists have the same members exactly where their keys are the same.
use Rattle.std.specs.Prelude.{◌↔◌, ℕ, List, Option}
use Rattle.std.specs.List.{Contains}
use Rattle.std.specs.List.Sorted.{IsStrictlySortedBy}
use Rattle.std.specs.Ordering.{nat_cmp}
use Rattle.std.specs.BTreeMap.{BTreeMap, get_by}
use Rattle.std.specs.Cmp.Lexicographic.{slice_cmp}
use Rattle.std.specs.declared.vec.Vec.{Vec}

-- the key lists the members of xs, each once and in order
pub record IsKeyOf (xs key : List ℕ) : Type 0 where
  pub rises : IsStrictlySortedBy nat_cmp key
  pub members : (s : ℕ) → Contains xs s ↔ Contains key s

-- what a map has at a key
abbrev pub value_at : {X Y : Type 0} → BTreeMap (Vec ℕ Y) X → List ℕ → Option X
value_at map key = get_by (λ k. slice_cmp nat_cmp key k.items) map
