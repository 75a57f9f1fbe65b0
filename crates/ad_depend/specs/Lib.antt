pub mod Covered
pub mod Numbering
