pub mod EditionsLemmas
pub mod KeptLemmas
pub mod OwnersLemmas
pub mod LookLemmas
