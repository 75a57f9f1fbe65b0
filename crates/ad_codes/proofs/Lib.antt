pub mod CodeEquations
pub mod Running
pub mod RangeLemmas
pub mod ClassLemmas
pub mod AxiomLemmas
pub mod Putting
pub mod Joining
pub mod SignatureLemmas
