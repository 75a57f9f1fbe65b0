-- The lines of the axioms so far are written.
use Rattle.std.proofs.Common.{take, map}
use Rattle.std.specs.List.{flat_map}
use Rattle.ad_write.specs.Canonical.{canon_line}
use Rattle.ad_write.proofs.writes.write_all.Given as goal

abbrev pub invariant-loop-each : goal.invariant-loop-each
invariant-loop-each g l = g.P.Pen.writes l.initial.pen l.pen (flat_map canon_line (map g.A.Lent.lent (take l.each-index l.axioms)))
