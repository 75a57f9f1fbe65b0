pub mod PartLemmas
pub mod FoundLemmas
pub mod TableLemmas
pub mod GenuineRows
