-- The first slots have their rows that stay.
use Rattle.std.proofs.Common.{◌&&◌, not}
use Rattle.ad_bits.specs.Rows.{has}
use Rattle.ad_tables.specs.Rows.{row_of}
use Rattle.ad_repair.specs.Plans.{IsFilled, row_where}
use Rattle.ad_repair.proofs.filling.keep.Given as goal

abbrev pub invariant-loop-slot : goal.invariant-loop-slot
invariant-loop-slot g l =
    IsFilled l.fn.kind (λ i. row_where (g.U.Universe.is_live l.new i && not (has l.wanted i)) (row_of l.rows l.fn.kind i)) l.fn.kept l.kept l.slot
