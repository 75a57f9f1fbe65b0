-- The numbers of the entities so far.
use Rattle.std.proofs.Common.{◌≡◌, ◌≤◌, ℕ, take, length, vec_len, vec_capacity}
use Rattle.std.specs.Ordering.{nat_cmp}
use Rattle.std.specs.List.Sorted.{IsStrictlySortedBy}
use Rattle.ad_theory.specs.Numbers.{among}
use Rattle.ad_codes.specs.Laws.{numbers_of}
use Rattle.ad_flat.proofs.numbers.numbers_of.Given as goal

abbrev pub invariant-loop-entity : goal.invariant-loop-entity
invariant-loop-entity g l = record {
  rising : IsStrictlySortedBy nat_cmp l.list.items;
  members : (n : ℕ) → among l.list.items n ≡ among (numbers_of (g.N.Naming.number_of l.names) (take l.entity-index l.entities)) n;
  len : vec_len l.list ≤ l.entity-index;
  capacity : length l.entities ≤ vec_capacity l.list;
}
