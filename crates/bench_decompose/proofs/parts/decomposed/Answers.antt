use denote.Param.Send.{sendable}
use Rattle.ad_flat.proofs.Crossing.{universe_sync}
use Rattle.bench_decompose.proofs.parts.decomposed.Goals as goal

pub of-requires-sync-U : goal.of-requires-sync-U
of-requires-sync-U g c κs = search (universe_sync, sendable) depth 20
