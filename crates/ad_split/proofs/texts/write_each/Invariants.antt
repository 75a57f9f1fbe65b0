-- The parts so far were written.
use Rattle.std.proofs.Common.{◌≤◌, take}
use Rattle.std.specs.List.{flat_map}
use Rattle.ad_decompose.specs.Decomposed.{genuine_of}
use Rattle.ad_io.specs.Flow.{Gains}
use Rattle.ad_numbered.specs.Numbered.{order_of}
use Rattle.ad_split.specs.Parts.{numbered}
use Rattle.ad_split.specs.Rooms.{IsRoomOf}
use Rattle.ad_split.specs.Slots.{slot_text}
use Rattle.ad_split.specs.Tops.{tops}
use Rattle.ad_split.proofs.texts.write_each.Given as goal

abbrev pub invariant-loop-i : goal.invariant-loop-i
invariant-loop-i g l = record {
  gained : Gains (g.K.Sink.written l.initial.sink) (g.K.Sink.written l.sink)
      (flat_map (slot_text l.edition.numbered (genuine_of l.edition.found l.kind)) (take l.i (numbered (tops (genuine_of l.edition.found l.kind) (order_of l.edition.numbered)))));
  later : g.K.Sink.faults l.initial.sink ≤ g.K.Sink.faults l.sink;
  room : IsRoomOf l.edition.numbered l.room;
}
