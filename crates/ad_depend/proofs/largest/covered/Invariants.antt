use Rattle.std.proofs.Common.{◌≡◌, length}
use Rattle.ad_bits.specs.Rows.{member_count}
use Rattle.ad_decomposition.specs.Tables.{is_in_row_of}
use Rattle.ad_depend.proofs.WalkLemmas.{IsWalked}
use Rattle.ad_depend.proofs.largest.covered.Given as goal

abbrev pub invariant-covers : goal.invariant-covers
invariant-covers l = record {
  left : length l.left ≡ length l.initial.left;
  room : length l.largest ≡ length l.initial.largest;
  size : length l.row ≡ length l.atoms.firsts;
  walked : IsWalked (is_in_row_of l.rows l.kind) l.atoms.firsts l.initial.left l.left l.row;
}

abbrev pub decreases-covers : goal.decreases-covers
decreases-covers l = member_count l.left
