pub mod Tops
pub mod Parts
pub mod Closure
pub mod Slots
pub mod Going
pub mod GoingLaws
pub mod Rooms
