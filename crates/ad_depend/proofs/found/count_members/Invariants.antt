-- The members of the rows so far, each row with fewer than 2 ^ 32.
use Rattle.std.proofs.Common.{◌≡◌, ◌*◌, ◌≤◌, take}
use Rattle.std.specs.List.{sum_by}
use Rattle.ad_bits.specs.Rows.{member_count}
use Rattle.ad_depend.proofs.found.count_members.Given as goal

abbrev pub invariant-loop-row : goal.invariant-loop-row
invariant-loop-row l = record {
  counted : l.count ≡ sum_by member_count (take l.row-index l.rows);
  small : l.count ≤ 4294967295 * l.row-index;
}
