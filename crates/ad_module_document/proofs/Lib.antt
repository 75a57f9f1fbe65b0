pub mod FoundLemmas
pub mod ChosenLemmas
pub mod SeedLemmas
pub mod SlotLemmas
pub mod LineLemmas
