pub mod Loose
pub mod Modules
