pub mod EnteringLemmas
pub mod ListLemmas
pub mod NumberedLemmas
pub mod PlacingLemmas
