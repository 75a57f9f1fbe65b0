pub mod Phrases
pub mod Laws
pub mod Readings
