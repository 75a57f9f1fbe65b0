-- So many places have nothing.
use Rattle.std.proofs.Common.{◌≡◌, None, replicate}
use Rattle.ad_joined.proofs.ahead.nothing.Given as goal

abbrev pub invariant-loop : goal.invariant-loop
invariant-loop g l = record { filled : l.places.items ≡ replicate l.counter None }
