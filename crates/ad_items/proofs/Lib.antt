pub mod Splitting
pub mod Existing
pub mod ReadingLemmas
