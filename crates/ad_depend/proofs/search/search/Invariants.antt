-- The atoms so far have their rows, and the tops are the firsts below none of them.
use Rattle.std.proofs.Common.{◌≡◌, ◌↔◌, ℕ, ◌<◌, List, [], length, slice_index, slice_index_or, IsTrue, IsFalse}
use Rattle.ad_bits.specs.Rows.{has}
use Rattle.ad_tables.specs.Rows.{of_kind}
use Rattle.ad_decomposition.specs.Atoms.{depends_strictly}
use Rattle.ad_decomposition.specs.Tables.{is_in_row_of}
use Rattle.ad_depend.specs.Numbering.{AreAtomsOfOrder, HasCovers, IsFirst}
use Rattle.ad_depend.proofs.search.search.Given as goal

abbrev pub invariant-loop-atom : goal.invariant-loop-atom
invariant-loop-atom l = record {
  left : length l.left ≡ length (of_kind l.rows l.fn.kind);
  room : length l.largest ≡ length (of_kind l.rows l.fn.kind);
  tops : length l.tops ≡ length (of_kind l.rows l.fn.kind);
  count : length l.found.items ≡ l.atom;
  sizes : (i : ℕ) → i < l.atom → length (slice_index_or l.found.items i []) ≡ length l.atoms.firsts;
  covers : (order : List ℕ) → AreAtomsOfOrder l.rows l.fn.kind order l.atoms → (i : ℕ) → i < l.atom → HasCovers (is_in_row_of l.rows l.fn.kind) order i (slice_index_or l.found.items i []);
  above : (order : List ℕ) → AreAtomsOfOrder l.rows l.fn.kind order l.atoms → (b : ℕ) → IsTrue (has l.tops b) ↔ (IsFirst l.atoms.firsts b × ((i : ℕ) → i < l.atom → IsFalse (depends_strictly (is_in_row_of l.rows l.fn.kind) order (slice_index l.atoms.firsts i) b)));
}
