pub mod PlacesLemmas
pub mod WorkingLemmas
pub mod StepLemmas
pub mod AppliedLemmas
