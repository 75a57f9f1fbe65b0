-- The first of the symbols have their rows.
use Rattle.std.proofs.Common.{◌≡◌, ℕ, ◌<◌, ◌&&◌, not, [], length, slice_index_or}
use Rattle.ad_bits.specs.Rows.{has}
use Rattle.ad_theory.specs.Numbers.{among}
use Rattle.ad_repair.proofs.touched.holders_of_each.Given as goal

abbrev pub invariant-loop-symbol : goal.invariant-loop-symbol
invariant-loop-symbol g l = record {
  long : length l.rows.items ≡ l.symbol-index;
  sizes : (t : ℕ) → t < length l.rows.items → length (slice_index_or l.rows.items t []) ≡ g.U.Universe.slot_count l.universe;
  members : (t i : ℕ) → t < length l.rows.items → has (slice_index_or l.rows.items t []) i ≡
      (among (g.U.Universe.slots_of l.universe (slice_index_or l.symbols t 0)) i && not (has l.removed i));
}
