-- Of the first slots those are members to whose rows something is foreign.
use Rattle.std.proofs.Common.{◌≡◌, ◌≤◌, ◌<◌, ℕ, Bool, List, length, IsTrue, IsFalse}
use Rattle.ad_bits.specs.Rows.{has}
use Rattle.ad_decomposition.specs.Affected.{Theory, has_foreign}
use Rattle.ad_decomposition.specs.Tables.{is_in_row_of}
use Rattle.ad_repair.specs.Changes.{theory_of, change_of, stays, kind_of_side}
use Rattle.ad_repair.specs.Touches.{IsTouched, HaveLiveRows}
use Rattle.ad_repair.proofs.foreign.foreign_slots.Given as goal

abbrev pub invariant-loop-slot : goal.invariant-loop-slot
invariant-loop-slot g l =
    let U = g.U.Universe in
    record {
      size : length l.foreign ≡ U.slot_count l.new;
      room : length l.seen ≡ U.symbol_count l.new;
      members : (before : Theory) (removed added : List Bool) (slots : ℕ) →
          let change = change_of before (theory_of (U.symbols_of l.new) (U.is_local l.new) (U.is_live l.new)) removed added slots in
          slots ≡ U.slot_count l.new → IsTouched change l.touched → HaveLiveRows before.live l.rows → (i : ℕ) → i < l.slot → IsTrue (stays change i) →
          has l.foreign i ≡ has_foreign change l.fn.side i (is_in_row_of l.rows (kind_of_side l.fn.side) i);
      rest : (i : ℕ) → l.slot ≤ i → IsFalse (has l.foreign i);
      counted : l.fn.tally.tests ≤ l.tally.tests;
      runs : l.tally.runs ≡ l.fn.tally.runs;
    }
