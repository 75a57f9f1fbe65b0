use Rattle.std.proofs.Common.{◌≡◌, map, drop}
use Rattle.ad_check.specs.Machine.{lookup, entry_of}
use Rattle.ad_check.proofs.rows.row_of.Given as goal

abbrev pub invariant-loop-row : goal.invariant-loop-row
invariant-loop-row l = lookup (map entry_of (drop l.row-index l.rows)) l.word ≡ lookup (map entry_of l.rows) l.word
