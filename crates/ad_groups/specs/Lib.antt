pub mod Signatures
pub mod Keys
pub mod Groups
pub mod GenuineRows
