pub mod Depths
pub mod Spellable
