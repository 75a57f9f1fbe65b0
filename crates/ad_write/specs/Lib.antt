pub mod Arguments
pub mod Canonical
pub mod Groups
pub mod Keywords
