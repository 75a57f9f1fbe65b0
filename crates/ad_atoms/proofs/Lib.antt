pub mod RowLemmas
pub mod Gathers
pub mod Places
pub mod Counts
pub mod Steps
pub mod SameRows
