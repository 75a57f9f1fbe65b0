-- Rooms for parts, and what stands in them.
use Rattle.std.specs.Prelude.{◌≡◌, length}
use Rattle.ad_numbered.specs.Numbered.{InSlots}
use Rattle.ad_split.specs.Going.{AreGoing}
use Rattle.ad_split.specs.declared.room.Room.{Room}

-- the room knows how each axiom of the ontology goes, and has a row for its numbers
pub record IsRoomOf (ontology : InSlots) (room : Room) : Type 0 where
  pub going : AreGoing ontology room.going.items
  pub closure : length room.closure ≡ ontology.symbols
