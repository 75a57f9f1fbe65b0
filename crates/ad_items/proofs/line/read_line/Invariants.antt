use Rattle.std.proofs.Common.{◌≤◌}
use Rattle.ad_items.proofs.ReadingLemmas.{IsBegun}
use Rattle.ad_items.proofs.line.read_line.Given as goal

abbrev pub invariant-bytes : goal.invariant-bytes
invariant-bytes g l = record {
  begun : IsBegun (g.S.Source.left l.initial.source) (g.S.Source.left l.source) l.line l.counter;
  later : g.S.Source.faults l.initial.source ≤ g.S.Source.faults l.source;
}
