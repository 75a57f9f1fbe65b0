-- The lines of the axioms so far were written.
use Rattle.std.proofs.Common.{◌≤◌}
use Rattle.std.specs.List.{flat_map}
use Rattle.ad_bits.specs.Rows.{has}
use Rattle.ad_io.specs.Flow.{Gains}
use Rattle.ad_write.specs.Canonical.{canon_line}
use Rattle.ad_module_document.proofs.LineLemmas.{front_of}
use Rattle.ad_split.specs.Slots.{is_in_part}
use Rattle.ad_split.proofs.part.Part.write_lines.Given as goal

abbrev pub invariant-loop-i : goal.invariant-loop-i
invariant-loop-i g l = record {
  gained : Gains (g.K.Sink.written l.initial.sink) (g.K.Sink.written l.sink)
      (flat_map canon_line (front_of (is_in_part l.self.ontology.now (has l.self.members.now) (has l.self.closure.now)) l.self.ontology.now l.i));
  later : g.K.Sink.faults l.initial.sink ≤ g.K.Sink.faults l.sink;
}
