-- All parts together are the slots.
use Rattle.std.proofs.Common.{◌≡◌, ◌<◌, ◌^◌}
use Rattle.std.specs.List.{flat_map, sum_by}
use Rattle.ad_base.specs.declared.limits.Kind.{Kind}
use Rattle.ad_genuine.specs.declared.found.Found.{Found}
use Rattle.ad_genuine.specs.Found.{rows_of_kind, runs_of}
use Rattle.ad_genuine.proofs.FoundLemmas.{joined_found}
use Rattle.ad_genuine.proofs.PartLemmas.{if_ok_both}
use Rattle.ad_genuine.proofs.parts.find_shared.Goals as goal

pub returns : goal.returns
returns g c =
    let u = c.args.universe.now in
    let parts = c.in_ok-parts.parts.items in
    let split = c.in_ok-parts.ensures in
    if_ok_both
    (λ (found : Found). (kind : Kind) → rows_of_kind found kind ≡ flat_map (λ part. rows_of_kind part kind) parts)
    (λ found. sum_by runs_of parts < 2 ^ 64 → runs_of found ≡ sum_by runs_of parts)
    _ c.joined.result c.joined.ensures.rows c.joined.ensures.runs
    (λ found rows runs. joined_found (g.U.Universe.symbols_of u) (g.U.Universe.is_local u) (g.U.Universe.is_live u) (g.U.Universe.slot_count u) c.args.slots.now split.0 parts found split.1 c.requires.few split.2 rows runs)
