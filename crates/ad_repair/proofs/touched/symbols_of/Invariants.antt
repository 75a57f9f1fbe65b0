-- The symbols of the first slots are members.
use Rattle.std.proofs.Common.{◌≡◌, ℕ, length, take, IsTrue}
use Rattle.ad_bits.specs.Rows.{has}
use Rattle.ad_theory.specs.Numbers.{among}
use Rattle.ad_repair.proofs.touched.symbols_of.Given as goal

abbrev pub invariant-loop-slot : goal.invariant-loop-slot
invariant-loop-slot g l = record {
  size : length l.row ≡ g.U.Universe.symbol_count l.universe;
  members : (k s : ℕ) → IsTrue (among (take l.slot-index l.slots) k) → IsTrue (among (g.U.Universe.symbols_of l.universe k) s) → IsTrue (has l.row s);
}
