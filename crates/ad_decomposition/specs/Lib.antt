pub mod Tables
pub mod Atoms
pub mod Affected
