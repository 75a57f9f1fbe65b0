pub mod AtomsText
pub mod Numbered
