-- The first slots have the results of their tasks.
use Rattle.std.proofs.Common.{[], None, slice_index_or}
use Rattle.std.specs.Option.{option_map}
use Rattle.ad_repair.specs.Plans.{IsFilled}
use Rattle.ad_repair.proofs.filling.fill.Given as goal

abbrev pub invariant-loop-slot : goal.invariant-loop-slot
invariant-loop-slot l =
    IsFilled l.fn.kind (λ i. option_map (λ t. slice_index_or l.results t []) (slice_index_or l.numbers i None)) l.fn.rows l.rows l.slot
