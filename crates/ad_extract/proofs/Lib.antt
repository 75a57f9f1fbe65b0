pub mod WaitingLemmas
pub mod SearchLemmas
