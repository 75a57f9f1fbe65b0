pub mod RowLemmas
pub mod WalkLemmas
pub mod NumberingLemmas
pub mod CoverLemmas
