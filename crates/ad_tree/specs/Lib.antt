pub mod formers
pub mod Logical
pub mod Same
