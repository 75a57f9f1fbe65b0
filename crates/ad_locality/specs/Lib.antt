pub mod Columns
pub mod Signature
pub mod Locality
