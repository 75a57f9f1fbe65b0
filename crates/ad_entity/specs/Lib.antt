pub mod Entities
pub mod Builtin
