-- The first of the groups have their tasks' numbers.
use Rattle.std.proofs.Common.{◌≡◌, ◌+◌, ◌<◌, ℕ, None, length, slice_index_or}
use Rattle.std.specs.Option.{option_map}
use Rattle.ad_repair.proofs.planning.numbers_of.Given as goal

abbrev pub invariant-loop-at : goal.invariant-loop-at
invariant-loop-at l = record {
  long : length l.numbers.items ≡ l.at;
  numbers : (i : ℕ) → i < l.at → slice_index_or l.numbers.items i None ≡ option_map (λ g. l.fn.first + g) (slice_index_or l.groups i None);
}
