pub mod LimitLemmas
pub mod SlotLemmas
pub mod OntologyLemmas
pub mod LogLemmas
