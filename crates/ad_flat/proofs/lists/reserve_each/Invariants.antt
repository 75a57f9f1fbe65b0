-- The lists of the symbols so far have room.
use Rattle.std.proofs.Common.{◌≡◌, ℕ, IsTrue, take, vec_len}
use Rattle.smallvec.specs.SmallVec.{HasRoomFor}
use Rattle.ad_theory.specs.Numbers.{among}
use Rattle.ad_flat.specs.Changes.{list_at, list_of}
use Rattle.ad_flat.proofs.lists.reserve_each.Given as goal

abbrev pub invariant-loop-symbol : goal.invariant-loop-symbol
invariant-loop-symbol l = record {
  len : vec_len l.lists ≡ vec_len l.initial.lists;
  same : (s : ℕ) → list_of l.lists.items s ≡ list_of l.initial.lists.items s;
  room : (s : ℕ) → IsTrue (among (take l.symbol-index l.symbols) s) → HasRoomFor (list_at l.lists.items s) 1;
}
