-- A universe may be sent to threads and shared between them.
use denote.Enum.Declared.{shape}
use denote.Param.Send.{IsSend, IsSync, enum_send, enum_sync, sendable}
use Rattle.std.proofs.Crossing.{crosses}
use Rattle.ad_bits.specs.contracts.row.Row as row
use Rattle.ad_locality.specs.contracts.surely.Surely as surely
use Rattle.ad_cells.specs.contracts.cell.Cell as cell
use Rattle.ad_cells.specs.contracts.cell.Test as test
use Rattle.ad_slots.specs.contracts.slot.Slot as slot
use Rattle.ad_flat.specs.contracts.shared.Entry as entry
use Rattle.ad_flat.specs.contracts.slots.Slots as slots
use Rattle.ad_flat.specs.contracts.flat.FlatUniverse as flat

both : {A B : Type 0} → A → B → A × B
both a b = (a, b)

surely_sync : IsSync (surely.the_field).row
surely_sync = search sendable depth 20

cell_sync : IsSync (cell.the_field).row
cell_sync =
    let s = surely_sync in
    enum_sync (shape cell.the_type) (search (both, tt, sendable) depth 60 fits 10000)

test_sync : IsSync (test.the_field).row
test_sync = enum_sync (shape test.the_type) (search (both, tt, sendable) depth 60 fits 10000)

surely_send : IsSend (surely.the_field).row
surely_send = search sendable depth 20

cell_send : IsSend (cell.the_field).row
cell_send =
    let s = surely_send in
    enum_send (shape cell.the_type) (search (both, tt, sendable) depth 60 fits 10000)

test_send : IsSend (test.the_field).row
test_send = enum_send (shape test.the_type) (search (both, tt, sendable) depth 60 fits 10000)

slot_sync : IsSync (slot.the_field).row
slot_sync = search (cell_sync, test_sync, crosses, sendable) depth 20

slot_send : IsSend (slot.the_field).row
slot_send = search (cell_send, test_send, crosses, sendable) depth 20

entry_sync : IsSync (entry.the_field).row
entry_sync = search (slot_sync, slot_send, crosses, sendable) depth 20

entry_send : IsSend (entry.the_field).row
entry_send = search (slot_sync, slot_send, crosses, sendable) depth 20

row_sync : IsSync (row.the_field).row
row_sync = search (crosses, sendable) depth 20

row_send : IsSend (row.the_field).row
row_send = search (crosses, sendable) depth 20

slots_sync : IsSync (slots.the_field).row
slots_sync = search (entry_sync, row_sync, crosses, sendable) depth 30

slots_send : IsSend (slots.the_field).row
slots_send = search (entry_send, row_send, crosses, sendable) depth 30

pub universe_sync : IsSync (flat.the_field).row
universe_sync = search (slots_sync, sendable) depth 20

pub universe_send : IsSend (flat.the_field).row
universe_send = search (slots_send, sendable) depth 20
