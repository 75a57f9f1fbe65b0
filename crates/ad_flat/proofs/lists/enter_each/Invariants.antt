-- The lists of the symbols so far have the slot, and the others have room for it.
use Rattle.std.proofs.Common.{◌≡◌, ℕ, IsTrue, IsFalse, take, vec_len}
use Rattle.std.specs.Ordering.{nat_cmp}
use Rattle.std.specs.List.Sorted.{IsStrictlySortedBy}
use Rattle.smallvec.specs.SmallVec.{HasRoomFor}
use Rattle.ad_theory.specs.Numbers.{among}
use Rattle.ad_slots.specs.Rising.{IsWith}
use Rattle.ad_flat.specs.Changes.{list_at, list_of, AreChanged}
use Rattle.ad_flat.proofs.lists.enter_each.Given as goal

abbrev pub invariant-loop-symbol : goal.invariant-loop-symbol
invariant-loop-symbol l = record {
  len : vec_len l.lists ≡ vec_len l.initial.lists;
  rising : (s : ℕ) → IsStrictlySortedBy nat_cmp (list_of l.lists.items s);
  room : (s : ℕ) → IsTrue (among l.symbols s) → IsFalse (among (list_of l.lists.items s) l.slot) → HasRoomFor (list_at l.lists.items s) 1;
  changed : AreChanged (IsWith l.slot) (take l.symbol-index l.symbols) l.initial.lists.items l.lists.items;
}
