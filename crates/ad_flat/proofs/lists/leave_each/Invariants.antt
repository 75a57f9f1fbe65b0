-- The lists of the symbols so far don't have the slot.
use Rattle.std.proofs.Common.{◌≡◌, ℕ, take, vec_len}
use Rattle.std.specs.Ordering.{nat_cmp}
use Rattle.std.specs.List.Sorted.{IsStrictlySortedBy}
use Rattle.ad_slots.specs.Rising.{IsWithout}
use Rattle.ad_flat.specs.Changes.{list_of, AreChanged}
use Rattle.ad_flat.proofs.lists.leave_each.Given as goal

abbrev pub invariant-loop-symbol : goal.invariant-loop-symbol
invariant-loop-symbol l = record {
  len : vec_len l.lists ≡ vec_len l.initial.lists;
  rising : (s : ℕ) → IsStrictlySortedBy nat_cmp (list_of l.lists.items s);
  changed : AreChanged (IsWithout l.slot) (take l.symbol-index l.symbols) l.initial.lists.items l.lists.items;
}
