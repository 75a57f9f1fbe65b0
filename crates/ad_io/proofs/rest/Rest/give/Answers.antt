-- What was copied is the front of what was left.
use Rattle.std.proofs.Common.{◌+◌, ◌≤◌, length, drop, sym, ◌∙◌, arith}
use Rattle.std.proofs.lemmas.List.{length-append}
use Rattle.ad_io.proofs.MemoryLemmas.{copies_next, copies_count, gives_next}
use Rattle.ad_io.proofs.rest.Rest.give.Goals as goal

pub returns-clause-bytes : goal.returns-clause-bytes
returns-clause-bytes c =
    let bytes = c.self.inside.bytes.items in
    let given = c.self.inside.given in
    let n = c.min-count.result in
    let copied = c.copy_from_slice.new.self in
    let tail = drop n c.args.buffer.now in
    let fits : given + n ≤ length bytes = omega (arith, c.self.inside.bytes.ok.0) in
    let e = copies_next bytes c.deref.result.now copied given n c.deref.ensures.value fits c.copy_from_slice.ensures.after in
    let count = copies_count bytes copied given n fits e in
    (omega arith, rw length-append (omega arith), sym c.self.view_is ∙ gives_next bytes copied tail given n fits e)
