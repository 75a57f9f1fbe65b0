-- Of the first slots those are members whose modules are to be found.
use Rattle.std.proofs.Common.{◌≡◌, ◌≤◌, ◌<◌, ℕ, length, IsFalse}
use Rattle.ad_bits.specs.Rows.{has}
use Rattle.ad_decomposition.specs.Affected.{Theory, to_find}
use Rattle.ad_repair.specs.Changes.{theory_of, change_of}
use Rattle.ad_repair.specs.Marks.{AreForeign, AllStay}
use Rattle.ad_repair.proofs.marks.marked.Given as goal

abbrev pub invariant-loop-slot : goal.invariant-loop-slot
invariant-loop-slot g l =
    let U = g.U.Universe in
    record {
      size : length l.row ≡ U.slot_count l.new;
      members : (before : Theory) (slots : ℕ) →
          let change = change_of before (theory_of (U.symbols_of l.new) (U.is_local l.new) (U.is_live l.new)) l.removed l.added slots in
          slots ≡ U.slot_count l.new → AreForeign change l.rows l.foreign → AllStay change → (i : ℕ) → i < l.slot → has l.row i ≡ to_find change l.rows l.fn.kind i;
      rest : (i : ℕ) → l.slot ≤ i → IsFalse (has l.row i);
    }
