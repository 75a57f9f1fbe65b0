use Rattle.std.proofs.Common.{◌≡◌, ◌≤◌, ◌+◌, ◌-◌, ◌*◌}
use Rattle.ad_bits.specs.Rows.{has}
use Rattle.ad_cells.specs.Codes.{taken, blank}
use Rattle.ad_cells.specs.Scans.{stack_after}
use Rattle.ad_cells.proofs.scan.+scan.Given as goal

abbrev pub decreases-gather : goal.decreases-gather
decreases-gather l = 2 * l.end + 1

abbrev pub decreases-scan : goal.decreases-scan
decreases-scan l = 2 * l.end

abbrev pub decreases-scan_pair : goal.decreases-scan_pair
decreases-scan_pair l = 2 * l.end + 1

-- taking all operands off the whole is taking those that are left off the rest, before those that were taken
abbrev pub invariant-gather-loop-i : goal.invariant-gather-loop-i
invariant-gather-loop-i l = record {
  same : taken l.count blank (stack_after l.side (has l.seen) l.code l.end) ≡ taken (l.count - l._i) l.operands (stack_after l.side (has l.seen) l.code l.rest);
  shorter : l.rest ≤ l.end;
}
