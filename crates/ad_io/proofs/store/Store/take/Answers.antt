-- What fits is kept, and the others are counted.
use Rattle.std.proofs.Common.{◌≡◌, ◌-◌, ◌≤◌, ◌++◌, length, take, min, ◌∙◌, ap, arith}
use Rattle.ad_io.specs.Memory.{stored}
use Rattle.ad_io.proofs.MemoryLemmas.{stores, store_gains}
use Rattle.ad_io.proofs.store.Store.take.Goals as goal

pub returns-clause-stored : goal.returns-clause-stored
returns-clause-stored c =
    let kept = c.self.inside.kept.items in
    let room = c.self.inside.room in
    let bytes = c.args.bytes.now in
    let within : length kept ≤ room = omega (arith, c.self.inside.kept.ok.0) in
    let fits : c.min-fits.result ≡ min (length bytes) (room - length kept) = omega (arith, c.self.inside.kept.ok.0) in
    let after : c.extend_from_slice.new.self.items ≡ kept ++ take c.min-fits.result bytes = rw c.unwrap.ensures at c.extend_from_slice.ensures.items in
    stores kept bytes _ room c.self.inside.rest _ _ within fits after c.saturating_add-self-inside.ensures
    ∙ ap (λ s. stored s bytes) c.self.view_is

pub returns-clause-gained : goal.returns-clause-gained
returns-clause-gained c = store_gains _ _ c.args.bytes.now (returns-clause-stored c)
