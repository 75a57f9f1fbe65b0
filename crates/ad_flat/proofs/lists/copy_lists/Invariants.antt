-- What was copied so far.
use Rattle.std.proofs.Common.{◌≡◌, ◌<◌, ℕ, vec_len}
use Rattle.ad_flat.specs.Changes.{list_of}
use Rattle.ad_flat.proofs.lists.copy_lists.Given as goal

abbrev pub invariant-loop-list : goal.invariant-loop-list
invariant-loop-list l = record {
  long : vec_len l.copy ≡ l.list-index;
  same : (s : ℕ) → s < l.list-index → list_of l.copy.items s ≡ list_of l.lists s;
}
