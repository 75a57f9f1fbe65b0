-- The owners so far.
use Rattle.std.proofs.Common.{◌≡◌, replicate, Some}
use Rattle.ad_core.specs.Kept.{edition_in, waiting_in}
use Rattle.ad_core.proofs.owners.waiting_for.Given as goal

abbrev pub invariant-loop-session : goal.invariant-loop-session
invariant-loop-session l = waiting_in l.waiting.items ≡ replicate l._session (Some (edition_in l.edition))
