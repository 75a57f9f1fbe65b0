-- There is a row of covers for each atom.
use denote.Param.Send.{sendable}
use Rattle.std.proofs.Common.{length, sym, ap, ◌∙◌}
use Rattle.rayon.proofs.ListFacts.{IfOk-then}
use Rattle.ad_flat.proofs.Crossing.{universe_sync}
use Rattle.ad_genuine_tests.proofs.atoms.decomposed.Goals as goal

pub of-requires-sync-U : goal.of-requires-sync-U
of-requires-sync-U g c κs = search (universe_sync, sendable) depth 20

pub returns : goal.returns
returns g c = IfOk-then c.of.result _ _ c.of.ensures.found (λ found is kind.
    let atomic = is.atomic kind in
    atomic.covers_are.atoms_are ∙ sym (ap length atomic.atoms_are.firsts_are))
