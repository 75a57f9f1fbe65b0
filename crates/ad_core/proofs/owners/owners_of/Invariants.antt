-- The owners so far.
use Rattle.std.proofs.Common.{◌≡◌, replicate}
use Rattle.ad_core.specs.Kept.{edition_in, editions_in}
use Rattle.ad_core.proofs.owners.owners_of.Given as goal

abbrev pub invariant-loop-session : goal.invariant-loop-session
invariant-loop-session l = editions_in l.owners.items ≡ replicate l._session (edition_in l.edition)
