pub mod Sights
pub mod Kept
