-- What is written and the rest, escaped, are the escaped text.
use Rattle.std.proofs.Common.{◌≡◌, ℕ, List, ◌++◌, length}
use Rattle.ad_write.specs.Canonical.{escaped}
use Rattle.ad_write.proofs.literals.write_escaped.Given as goal

abbrev pub invariant-runs : goal.invariant-runs
invariant-runs g l = (done : List ℕ) × (g.P.Pen.writes l.initial.pen l.pen done) × (escaped l.text ≡ done ++ escaped l.rest)

abbrev pub decreases-runs : goal.decreases-runs
decreases-runs g l = length l.rest
