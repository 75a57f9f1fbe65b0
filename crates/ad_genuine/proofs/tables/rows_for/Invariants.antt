-- The slots below this one have the rows of their groups, and the others none.
use Rattle.std.proofs.Common.{◌≡◌, ℕ, ◌<◌, ◌≤◌, [], None, length, slice_index_or}
use Rattle.std.specs.Option.{option_map}
use Rattle.ad_base.specs.declared.limits.Kind.{Kind}
use Rattle.ad_tables.specs.Rows.{of_kind, row_of}
use Rattle.ad_genuine.specs.Found.{rows_of_kind}
use Rattle.ad_genuine.proofs.tables.rows_for.Given as goal

abbrev pub invariant-loop-slot : goal.invariant-loop-slot
invariant-loop-slot l = record {
  size : (kind : Kind) → length (of_kind l.rows kind) ≡ length l.groups;
  done : (kind : Kind) (i : ℕ) → i < l.slot → row_of l.rows kind i ≡ option_map (λ g. slice_index_or (rows_of_kind l.found kind) g []) (slice_index_or l.groups i None);
  rest : (kind : Kind) (i : ℕ) → l.slot ≤ i → row_of l.rows kind i ≡ None;
}
