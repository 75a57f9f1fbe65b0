use Rattle.std.proofs.Common.{◌≡◌, None, replicate}
use Rattle.ad_tables.proofs.rows.no_rows.Given as goal

abbrev pub invariant-loop : goal.invariant-loop
invariant-loop l = record { filled : l.rows.items ≡ replicate l.counter None }
