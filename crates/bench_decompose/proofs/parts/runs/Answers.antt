use denote.Param.Send.{sendable}
use Rattle.ad_flat.proofs.Crossing.{universe_sync}
use Rattle.bench_decompose.proofs.parts.runs.Goals as goal

pub scratch-requires-sync-U : goal.scratch-requires-sync-U
scratch-requires-sync-U g c κs = search (universe_sync, sendable) depth 20
