pub mod PlaceLemmas
pub mod LargestLemmas
pub mod NestedRows
