-- What was found in the parts so far is put together.
use Rattle.std.proofs.Common.{◌≡◌, ◌<◌, ◌^◌}
use Rattle.std.specs.List.{flat_map, sum_by}
use Rattle.ad_base.specs.declared.limits.Kind.{Kind}
use Rattle.ad_genuine.specs.Found.{rows_of_kind, runs_of}
use Rattle.ad_genuine.proofs.found.joined.Given as goal

abbrev pub invariant-loop-part : goal.invariant-loop-part
invariant-loop-part l = record {
  rows : (kind : Kind) → rows_of_kind l.all kind ≡ flat_map (λ part. rows_of_kind part kind) l.yielded;
  runs : sum_by runs_of l.yielded < 2 ^ 64 → runs_of l.all ≡ sum_by runs_of l.yielded;
}
