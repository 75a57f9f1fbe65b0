-- The new lists so far are empty.
use Rattle.std.proofs.Common.{◌≡◌, ◌≤◌, ℕ, vec_len}
use Rattle.ad_flat.specs.Changes.{list_of}
use Rattle.ad_flat.proofs.lists.grow.Given as goal

abbrev pub invariant-loop-symbol : goal.invariant-loop-symbol
invariant-loop-symbol l = record {
  same : (s : ℕ) → list_of l.lists.items s ≡ list_of l.initial.lists.items s;
  long : vec_len l.lists ≡ l._symbol;
  no_fewer : vec_len l.initial.lists ≤ vec_len l.lists;
  most : (most : ℕ) → l.count ≤ most → vec_len l.initial.lists ≤ most → vec_len l.lists ≤ most;
}
